-- The triple, its last two words and its last word are looked for, one after the other.
use Prim.Native.Nat.{ℕ}
use native.Mathlib.Omega.{arith}
use mathlib.Core.Path.{◌≡◌, sym, ap, ◌∙◌}
use mathlib.Core.List.{List, [], ◌∷◌}
use lib.ListN.{drop}
use Rattle.meaning.specs.Derivation.{is_listed, supplier}
use Rattle.ngrams.specs.declared.Key.{Key}
use Rattle.ngrams.specs.Grams.{words_of, key_of, grams_in}
use Rattle.language.proofs.Scores.{key_words, key_padded, key_shortens}
use Rattle.language.proofs.supplier.Goals as goal
use Rattle.language.proofs.supplier.Goals.{After-is_listed, After-is_listed-2, After-is_listed-3}

-- the keys of the pair and of the word
pair_key : (v w y : ℕ) {k r : Key} → k ≡ key_of (v ∷ w ∷ y ∷ []) → r ≡ key_of (drop 1 (words_of k)) → r ≡ key_of (w ∷ y ∷ [])
pair_key v w y e f = f ∙ ap (λ (ws : List ℕ). key_of (drop 1 ws)) (key_words (v ∷ w ∷ y ∷ []) (omega arith) e)

word_key : (w y : ℕ) {k r : Key} → k ≡ key_of (w ∷ y ∷ []) → r ≡ key_of (drop 1 (words_of k)) → r ≡ key_of (y ∷ [])
word_key w y e f = f ∙ ap (λ (ws : List ℕ). key_of (drop 1 ws)) (key_words (w ∷ y ∷ []) (omega arith) e)

-- what the three tests say
triple_listed : (c : After-is_listed) → c.is_listed.result ≡ is_listed (grams_in c.args.index.now c.args.m.count) (c.args.v ∷ c.args.w ∷ c.args.y ∷ [])
triple_listed c = c.is_listed.ensures ∙ ap (is_listed (grams_in c.args.index.now c.args.m.count)) (key_words (c.args.v ∷ c.args.w ∷ c.args.y ∷ []) (omega arith) c.triple-triple.ensures)

pair-listed : (c : After-is_listed-2) → c.is_listed-2.result ≡ is_listed (grams_in c.args.index.now c.args.m.count) (c.args.w ∷ c.args.y ∷ [])
pair-listed c = c.is_listed-2.ensures ∙ ap (is_listed (grams_in c.args.index.now c.args.m.count)) (key_words (c.args.w ∷ c.args.y ∷ []) (omega arith) (pair_key c.args.v c.args.w c.args.y c.triple-triple.ensures c.rest_of-pair.ensures))

word-listed : (c : After-is_listed-3) → c.is_listed-3.result ≡ is_listed (grams_in c.args.index.now c.args.m.count) (c.args.y ∷ [])
word-listed c = c.is_listed-3.ensures ∙ ap (is_listed (grams_in c.args.index.now c.args.m.count)) (key_words (c.args.y ∷ []) (omega arith) (word_key c.args.w c.args.y (pair_key c.args.v c.args.w c.args.y c.triple-triple.ensures c.rest_of-pair.ensures) c.rest_of.ensures))

pub is_listed-requires-clause-key_value : goal.is_listed-requires-clause-key_value
is_listed-requires-clause-key_value c = key_padded (c.args.v ∷ c.args.w ∷ c.args.y ∷ []) (omega arith) c.triple-triple.ensures

pub returns-then-is_listed : goal.returns-then-is_listed
unfolding supplier
returns-then-is_listed c = rw (sym (triple_listed (goal.at.returns-then-is_listed c).After-is_listed) ∙ c.if-is_listed.true)

pub rest_of-pair-requires : goal.rest_of-pair-requires
rest_of-pair-requires c = key_shortens (c.args.v ∷ c.args.w ∷ c.args.y ∷ []) (omega arith) c.triple-triple.ensures (omega arith)

pub is_listed-requires-2-clause-key_value : goal.is_listed-requires-2-clause-key_value
is_listed-requires-2-clause-key_value c = key_padded (c.args.w ∷ c.args.y ∷ []) (omega arith) (pair_key c.args.v c.args.w c.args.y c.triple-triple.ensures c.rest_of-pair.ensures)

pub returns-then-is_listed-2 : goal.returns-then-is_listed-2
unfolding supplier
returns-then-is_listed-2 c = rw (sym (triple_listed (goal.at.returns-then-is_listed-2 c).After-is_listed) ∙ c.if-is_listed.false, sym (pair-listed (goal.at.returns-then-is_listed-2 c).After-is_listed-2) ∙ c.if-is_listed-2.true)

pub rest_of-requires : goal.rest_of-requires
rest_of-requires c = key_shortens (c.args.w ∷ c.args.y ∷ []) (omega arith) (pair_key c.args.v c.args.w c.args.y c.triple-triple.ensures c.rest_of-pair.ensures) (omega arith)

pub is_listed-requires-3-clause-key_value : goal.is_listed-requires-3-clause-key_value
is_listed-requires-3-clause-key_value c = key_padded (c.args.y ∷ []) (omega arith) (word_key c.args.w c.args.y (pair_key c.args.v c.args.w c.args.y c.triple-triple.ensures c.rest_of-pair.ensures) c.rest_of.ensures)

pub returns-then-is_listed-3 : goal.returns-then-is_listed-3
unfolding supplier
returns-then-is_listed-3 c = rw (sym (triple_listed (goal.at.returns-then-is_listed-3 c).After-is_listed) ∙ c.if-is_listed.false, sym (pair-listed (goal.at.returns-then-is_listed-3 c).After-is_listed-2) ∙ c.if-is_listed-2.false, sym (word-listed (goal.at.returns-then-is_listed-3 c).After-is_listed-3) ∙ c.if-is_listed-3.true)

pub returns : goal.returns
unfolding supplier
returns c = rw (sym (triple_listed (goal.at.returns c).After-is_listed) ∙ c.if-is_listed.false, sym (pair-listed (goal.at.returns c).After-is_listed-2) ∙ c.if-is_listed-2.false, sym (word-listed (goal.at.returns c).After-is_listed-3) ∙ c.if-is_listed-3.false)
