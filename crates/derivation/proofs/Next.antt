-- The state after a step, by the code's numbers, is the next state of document 01.
use Prim.Native.Nat.{ℕ, ◌^◌, ◌≤◌, ◌<◌}
use mathlib.Core.Path.{◌≡◌, refl, sym, ◌∙◌, ap}
use mathlib.Core.Bool.{true}
use mathlib.Core.List.{List, [], ◌∷◌}
use lib.IntN.{pos, ◌+ℤ◌, ◌*ℤ◌, +ℤ_idl, +ℤ_idr, +ℤ_assoc}
use Rattle.positions.proofs.Laws.{mask_covers}
use Rattle.meaning.specs.Book.{Book}
use Rattle.meaning.specs.Derivation.{triple_score, words_score, entry_at, jump}
use Rattle.meaning.specs.State.{is_free, last_two, next_key, gain, key_of}
use Rattle.meaning.specs.declared.Step.{Step}
use Rattle.meaning.specs.declared.State.{State}
use Rattle.derivation.specs.Model.{model_score, empty_row, with_word, with_words}
use Rattle.derivation.specs.Next.{jump_from, gain_by, next_state}
use Rattle.derivation.specs.declared.Setup.{Setup}
use Rattle.derivation.specs.declared.Row.{Row}
use Rattle.derivation.specs.declared.Phrase.{Phrase}

module _ (book : Book) (index : List ℕ) (t : Setup) (scores : (v w y : ℕ) → model_score index t v w y ≡ triple_score book v w y) where
  -- a row has the score of its triples, and its last two words
  row_score : (s : Row) (ys : List ℕ) → (with_words index t s ys).score ≡ s.score +ℤ words_score book s.word1 s.word2 ys
  unfolding with_words with_word words_score
  row_score s [] = sym (+ℤ_idr s.score)
  row_score s (y ∷ ys) =
      row_score (with_word index t s y) ys
      ∙ ap (λ z. s.score +ℤ z +ℤ words_score book s.word2 y ys) (scores s.word1 s.word2 y)
      ∙ +ℤ_assoc s.score (triple_score book s.word1 s.word2 y) (words_score book s.word2 y ys)

  row_word1 : (s : Row) (ys : List ℕ) → (with_words index t s ys).word1 ≡ (last_two s.word1 s.word2 ys).0
  unfolding with_words with_word last_two
  row_word1 s [] = refl
  row_word1 s (y ∷ ys) = row_word1 (with_word index t s y) ys

  row_word2 : (s : Row) (ys : List ℕ) → (with_words index t s ys).word2 ≡ (last_two s.word1 s.word2 ys).1
  unfolding with_words with_word last_two
  row_word2 s [] = refl
  row_word2 s (y ∷ ys) = row_word2 (with_word index t s y) ys

  module _ (step : Step) (p : Phrase) (n : ℕ) (s : State) where
    -- the key
    pub next_key_lem : 1 ≤ step.first → step.first ≤ step.last → step.last ≤ n → s.covered < 2 ^ n → is_free step 1 (key_of n s).covered ≡ true
        → key_of n (next_state index t p (entry_at book step.entry) step.first step.last s) ≡ next_key book (key_of n s) step
    unfolding key_of next_state next_key
    next_key_lem a b c small free =
        let e = entry_at book step.entry in
        let w1 = row_word1 (empty_row s.word1 s.word2) e.target in
        let w2 = row_word2 (empty_row s.word1 s.word2) e.target in
        let cov = mask_covers step n s.covered a b c small free in
        λ i. record { word1 = w1 i; word2 = w2 i; covered = cov i; r = step.last }

    -- the score
    pub next_score : p.g ≡ (entry_at book step.entry).g → t.eta ≡ book.eta
        → (next_state index t p (entry_at book step.entry) step.first step.last s).score ≡ s.score +ℤ gain book (key_of n s) step
    unfolding key_of next_state gain gain_by jump
    next_score g eta =
        let e = entry_at book step.entry in
        let w : (with_words index t (empty_row s.word1 s.word2) e.target).score ≡ words_score book s.word1 s.word2 e.target =
        row_score (empty_row s.word1 s.word2) e.target ∙ +ℤ_idl (words_score book s.word1 s.word2 e.target) in
        let far = pos (jump_from s.r step.first) in
        let row = (with_words index t (empty_row s.word1 s.word2) e.target).score in
        ap (λ z. s.score +ℤ (z +ℤ t.eta *ℤ far +ℤ row)) g
        ∙ ap (λ z. s.score +ℤ (e.g +ℤ z *ℤ far +ℤ row)) eta
        ∙ ap (λ z. s.score +ℤ (e.g +ℤ book.eta *ℤ far +ℤ z)) w
