-- Which of two ways comes first, for code that follows both back to the last place that they share.
use Rattle.std.specs.Prelude.{ℕ, ◌<◌, ◌≤◌, ◌≡◌, List, [], ◌∷◌, ◌++◌, ℤ, length, get_or}
use Rattle.meaning.specs.State.{Hyp}
use Rattle.meaning.specs.declared.Step.{Step}
use Rattle.store.specs.Store.{place_at}
use Rattle.ways.specs.Back.{nobody, Chains}
use Rattle.ways.specs.Codes.{step_of}

-- along a way more and more words are covered, and different places have different steps
pub record Walked (st : List ℤ) (l : List Hyp) : Type 0 where
  pub chains : Chains st l
  pub none_covered : (place_at st 0).size ≡ 0
  pub smaller : (c : ℕ) → 0 < c → c < length l → (place_at st (place_at st c).parent).size < (place_at st c).size
  pub apart : (c d : ℕ) → c < length l → d < length l → (get_or l c nobody).steps ≡ (get_or l d nobody).steps → c ≡ d

-- a state that the step of the number o leads to from the place j, beside the state of the place k, which covers as many words
pub record Beside (st : List ℤ) (l : List Hyp) (j o k : ℕ) : Type 0 where
  pub walked : Walked st l
  pub inside_j : j < length l
  pub inside_k : k < length l
  pub below : (place_at st j).size < (place_at st k).size
  pub level : (c : ℕ) → c < length l → (get_or l c nobody).steps ≡ (get_or l j nobody).steps ++ (step_of o ∷ []) → (place_at st c).size ≡ (place_at st k).size

-- for some list that the store shows
pub record Compared (st : List ℤ) (j o k : ℕ) : Type 0 where
  pub list : List Hyp
  pub beside : Beside st list j o k

-- what `comes_first` keeps: the steps `new` go through the place a and on by the step of the number s, and the steps `old` through b and on by that of t.
-- `met` is the place after b on the way of `old`
pub record Parting (st : List ℤ) (l : List Hyp) (new old : List Step) (a s b t : ℕ) : Type 0 where
  pub inside_a : a < length l
  pub inside_b : b < length l
  pub rest_new : List Step
  pub rest_old : List Step
  pub new_is : new ≡ (get_or l a nobody).steps ++ (step_of s ∷ rest_new)
  pub old_is : old ≡ (get_or l b nobody).steps ++ (step_of t ∷ rest_old)
  pub met : ℕ
  pub met_in : met < length l
  pub met_is : (get_or l met nobody).steps ≡ (get_or l b nobody).steps ++ (step_of t ∷ [])
  pub under : (place_at st a).size < (place_at st met).size
  pub over : (c : ℕ) → c < length l → (get_or l c nobody).steps ≡ (get_or l a nobody).steps ++ (step_of s ∷ []) → ((place_at st b).size ≤ (place_at st c).size) × (b ≡ c → ⊥)
  pub differ : (get_or l a nobody).steps ++ (step_of s ∷ []) ≡ (get_or l b nobody).steps ++ (step_of t ∷ []) → new ≡ old
