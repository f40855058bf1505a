-- The sum of the history's weight and of the score of the words without the first, which are one fewer.
use Prim.Native.Nat.{ℕ, ◌+◌, ◌*◌, ◌<◌}
use native.Mathlib.Omega.{arith}
use mathlib.Core.Path.{◌≡◌, sym, ap, ◌∙◌, subst}
use mathlib.Core.List.{List, drop_last}
use lib.IntN.{ℤ, ◌+ℤ◌}
use lib.ListN.{length, drop, length-drop}
use mir.Facts.{to_z-of_z}
use mir.Syntax.{w64}
use Rattle.laws.specs.Integers.{Within}
use Rattle.laws.proofs.Bounds.{within_fits}
use Rattle.laws.proofs.Got.{i64, Got, held, add, kept, fits}
use Rattle.meaning.specs.Bounds.{score_most}
use Rattle.meaning.specs.Derivation.{score_or, weight}
use Rattle.meaning.proofs.Bounds.{weight_within}
use Rattle.ngrams.specs.declared.Key.{Key}
use Rattle.ngrams.specs.Grams.{words_of, key_of, grams_in}
use Rattle.ngrams.proofs.Keys.{words_back, words_few}
use Rattle.language.specs.declared.LanguageModel.{LanguageModel}
use Rattle.std.proofs.Common.{Some, None}
use Rattle.language.specs.Language.{latest_score, latest_weight, unlisted_score, Shortens, IsModel}
use Rattle.language.proofs.Scores.{weight_listed, score_listed, words_some, as_many, drop_last_long, unlisted_word, unlisted_more, rest_within}
use Rattle.language.proofs.+back_off.Goals as goal

module _ (index : List ℕ) (m : LanguageModel) (key : Key) (model : IsModel index m) (padded : key ≡ key_of (words_of key)) (some : 1 < key.order) where
  -- there are two words or three
  shortens : Shortens key
  shortens = record { padded = padded; some = some }

  -- the words without the first are fewer, and a key of their own
  rest_words : (r : Key) → r ≡ key_of (drop 1 (words_of key)) → words_of r ≡ drop 1 (words_of key)
  rest_words r e = ap words_of e ∙ words_back (drop 1 (words_of key)) (omega (arith, length-drop 1 (words_of key), words_few key))

  rest_order : (r : Key) → r ≡ key_of (drop 1 (words_of key)) → r.order < key.order
  unfolding key_of
  rest_order r e =
      let o : r.order ≡ length (drop 1 (words_of key)) = ap (λ (k : Key). k.order) e in
      omega (arith, o, length-drop 1 (words_of key), as_many padded, some)

  -- the weight
  weight_is : (h : Key) (w : ℤ) → h ≡ key_of (drop_last (words_of key)) → w ≡ latest_weight index m.count h → w ≡ weight (grams_in index m.count) (drop_last (words_of key))
  weight_is h w e f = f ∙ ap (latest_weight index m.count) e ∙ weight_listed model.listing (drop_last (words_of key)) (omega (arith, drop_last_long (words_of key), words_few key))

  -- the score of the words without the first
  abbrev rest_score : ℤ
  rest_score = score_or (grams_in index m.count) (unlisted_score m.unseen (grams_in index m.count) (drop 1 (words_of key))) (drop 1 (words_of key))

  -- the sum, once it is known that r is that score
  total : (w r : ℤ) → w ≡ weight (grams_in index m.count) (drop_last (words_of key)) → r ≡ rest_score
      → Got (score_most + 2 * score_most) (i64 w +ℤ i64 r) (unlisted_score m.unseen (grams_in index m.count) (words_of key))
  total w r f e =
      let sum = add (kept w64 (held f (weight_within m.unseen (grams_in index m.count) model.unseen_within model.grams_within (drop_last (words_of key)))) (omega arith)) (kept w64 (held e (rest_within m.unseen (grams_in index m.count) model.unseen_within model.grams_within (words_of key) (words_few key))) (omega arith)) in
      let z = unlisted_more m.unseen (grams_in index m.count) (words_of key) (words_some shortens) (words_few key) in
      record { is = sum.is ∙ z; within = subst (Within (score_most + 2 * score_most)) z sum.within }

  -- the words without the first are not listed, and went on
  gone : (r : Key) (b : ℤ) → r ≡ key_of (drop 1 (words_of key)) → None ≡ latest_score index m.count r → b ≡ unlisted_score m.unseen (grams_in index m.count) (words_of r) → b ≡ rest_score
  gone r b e u f =
      f ∙ ap (unlisted_score m.unseen (grams_in index m.count)) (rest_words r e)
      ∙ score_listed model.listing (drop 1 (words_of key)) (omega (arith, length-drop 1 (words_of key), words_few key)) _ None
      (u ∙ ap (latest_score index m.count) e)

  -- or listed
  got : (r : Key) (s : ℤ) → r ≡ key_of (drop 1 (words_of key)) → Some s ≡ latest_score index m.count r → s ≡ rest_score
  got r s e u =
      score_listed model.listing (drop 1 (words_of key)) (omega (arith, length-drop 1 (words_of key), words_few key)) _ (Some s)
      (u ∙ ap (latest_score index m.count) e)

pub returns-then-key-le1 : goal.returns-then-key-le1
returns-then-key-le1 t c =
    to_z-of_z (within_fits w64 {B = score_most} c.requires.model.unseen_within (omega arith))
    ∙ sym (unlisted_word c.args.m.unseen (grams_in c.args.index.now c.args.m.count) (words_of c.args.key) (omega (arith, c.if-key-le1.true, as_many c.requires.key_value)))

pub back_off-requires : goal.back_off-requires
back_off-requires t c =
    let a = c.args in
    let e = c.rest_of-rest.ensures in
    (omega (arith, rest_order a.index.now a.m a.key c.requires.model c.requires.key_value c.if-key-le1.false c.rest_of-rest.result e, c.decreases), (c.requires.model, e ∙ ap key_of (sym (rest_words a.index.now a.m a.key c.requires.model c.requires.key_value c.if-key-le1.false c.rest_of-rest.result e))))

-- the sum where the words without the first went on
further : (t : ℕ) (c : goal.After-back_off t) → Got (score_most + 2 * score_most) (i64 c.weight_of-weight.result +ℤ i64 c.back_off.result) (unlisted_score c.args.m.unseen (grams_in c.args.index.now c.args.m.count) (words_of c.args.key))
further t c =
    let a = c.args in
    let q = c.requires in
    total a.index.now a.m a.key q.model q.key_value c.if-key-le1.false c.weight_of-weight.result c.back_off.result
    (weight_is a.index.now a.m a.key q.model q.key_value c.if-key-le1.false c.history_of.result c.weight_of-weight.result c.history_of.ensures c.weight_of-weight.ensures)
    (gone a.index.now a.m a.key q.model q.key_value c.if-key-le1.false c.rest_of-rest.result c.back_off.result c.rest_of-rest.ensures c.in_default.ensures c.back_off.ensures)

-- the sum where they are listed
here : (t : ℕ) (c : goal.In-Some t) → Got (score_most + 2 * score_most) (i64 c.weight_of-weight.result +ℤ i64 c.in-Some.s) (unlisted_score c.args.m.unseen (grams_in c.args.index.now c.args.m.count) (words_of c.args.key))
here t c =
    let a = c.args in
    let q = c.requires in
    total a.index.now a.m a.key q.model q.key_value c.if-key-le1.false c.weight_of-weight.result c.in-Some.s
    (weight_is a.index.now a.m a.key q.model q.key_value c.if-key-le1.false c.history_of.result c.weight_of-weight.result c.history_of.ensures c.weight_of-weight.ensures)
    (got a.index.now a.m a.key q.model q.key_value c.if-key-le1.false c.rest_of-rest.result c.in-Some.s c.rest_of-rest.ensures c.in-Some.ensures)

pub overflow_add-result : goal.overflow_add-result
overflow_add-result t c = fits (further t c) (omega arith)

pub returns-in_default : goal.returns-in_default
returns-in_default t c = (kept w64 (further t c) (omega arith)).is

pub overflow_add-result-2 : goal.overflow_add-result-2
overflow_add-result-2 t c = fits (here t c) (omega arith)

pub returns : goal.returns
returns t c = (kept w64 (here t c) (omega arith)).is
