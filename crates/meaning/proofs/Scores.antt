-- What a row of steps gains from a state on is what it adds to a derivation's score; so a state's score is the score of its steps.
use Prim.Native.Nat.{ℕ}
use mathlib.Core.Path.{◌≡◌, refl, sym, ◌∙◌, ap}
use mathlib.Core.List.{List, [], ◌∷◌, ◌++◌, map}
use native.Mathlib.Omega.{arith}
use lib.IntN.{ℤ, pos, ◌+ℤ◌, ◌*ℤ◌, +ℤ_idl, +ℤ_assoc}
use Rattle.laws.specs.Lists.{sumℤ}
use Rattle.laws.proofs.Linear.{signed, sum}
use Rattle.search_theory.specs.Statements.{total}
use Rattle.meaning.specs.Book.{Book, Entry}
use Rattle.meaning.specs.Direction.{word_count}
use Rattle.meaning.specs.Derivation.{triple_score, words_score, entry_at, jump, jumps, target_words, score_of}
use Rattle.meaning.specs.State.{Key, start, last_two, next_key, gain}
use Rattle.meaning.specs.Search.{search}
use Rattle.meaning.specs.declared.Step.{Step}

-- a row of words in two parts: the second goes on from the last two words of the first
words_append : (book : Book) (v w : ℕ) (xs ys : List ℕ)
    → words_score book v w (xs ++ ys) ≡ words_score book v w xs +ℤ words_score book (last_two v w xs).0 (last_two v w xs).1 ys
unfolding words_score last_two
words_append book v w [] ys = sym (+ℤ_idl (words_score book v w ys))
words_append book v w (x ∷ xs) ys =
    ap (λ z. triple_score book v w x +ℤ z) (words_append book w x xs ys)
    ∙ sym (+ℤ_assoc (triple_score book v w x) (words_score book w x xs) (words_score book (last_two w x xs).0 (last_two w x xs).1 ys))

regroup : (g e w G J W : ℤ) → g +ℤ e +ℤ w +ℤ (G +ℤ J +ℤ W) ≡ g +ℤ G +ℤ (e +ℤ J) +ℤ (w +ℤ W)
regroup g e w G J W =
    omega (arith, signed, sum g e, sum (g +ℤ e) w, sum G J, sum (G +ℤ J) W, sum (g +ℤ e +ℤ w) (G +ℤ J +ℤ W), sum g G, sum e J, sum (g +ℤ G) (e +ℤ J), sum w W, sum (g +ℤ G +ℤ (e +ℤ J)) (w +ℤ W))

-- what the steps add to the score of a state
unfoldable pub added : Book → Key → List Step → ℤ
added book k steps =
    sumℤ (map (λ step. (entry_at book step.entry).g) steps)
    +ℤ sumℤ (map (λ j. book.eta *ℤ pos j) (jumps k.r steps))
    +ℤ words_score book k.word1 k.word2 (target_words book steps)

total_added : (book : Book) (direction : List ℕ) (width : ℤ) (k : Key) (steps : List Step) → total (search book direction width) k steps ≡ added book k steps
unfolding total added jumps target_words words_score gain next_key
total_added book direction width k [] = refl
total_added book direction width k (step ∷ steps) =
    ap (λ z. gain book k step +ℤ z) (total_added book direction width (next_key book k step) steps)
    ∙ regroup e.g (book.eta *ℤ pos (jump k.r step)) (words_score book k.word1 k.word2 e.target) G J W
    ∙ ap (λ z. e.g +ℤ G +ℤ (book.eta *ℤ pos (jump k.r step) +ℤ J) +ℤ z)
    (sym (words_append book k.word1 k.word2 e.target (target_words book steps)))
  where
    e : Entry
    e = entry_at book step.entry

    G : ℤ
    G = sumℤ (map (λ s. (entry_at book s.entry).g) steps)

    J : ℤ
    J = sumℤ (map (λ j. book.eta *ℤ pos j) (jumps step.last steps))

    W : ℤ
    W = words_score book (next_key book k step).word1 (next_key book k step).word2 (target_words book steps)

-- from the start state on, the whole score
pub total_score : (book : Book) (direction : List ℕ) (width : ℤ) (steps : List Step)
    → total (search book direction width) (start (word_count direction)) steps ≡ score_of book steps
unfolding added score_of start
total_score book direction width steps = total_added book direction width (start (word_count direction)) steps
