-- Where only triples are listed, u; else the triple goes on to shorter histories.
use native.Mathlib.Omega.{arith}
use Prim.Native.Nat.{ℕ}
use mathlib.Core.Path.{◌≡◌, sym, ap, ap₂, ◌∙◌}
use mathlib.Core.List.{List, [], ◌∷◌}
use lib.IntN.{ℤ}
use mir.Facts.{to_z-of_z}
use mir.Syntax.{w64}
use Rattle.laws.proofs.Bounds.{within_fits}
use Rattle.laws.proofs.Got.{i64}
use Rattle.laws.proofs.Linear.{told}
use Rattle.meaning.specs.Bounds.{score_most}
use Rattle.ngrams.specs.Grams.{words_of, key_of, grams_in}
use Rattle.ngrams.proofs.Keys.{words_back}
use Rattle.language.specs.Language.{unlisted_score}
use Rattle.language.proofs.Scores.{backs_to_u, unlisted_triple}
use Rattle.language.proofs.unlisted.Goals as goal
use Rattle.language.proofs.unlisted.Goals.{After-triple, Start}

-- u, read from the numbers that were lent
u-is : (c : Start) → i64 c.args.m.unseen ≡ c.args.m.unseen
u-is c = to_z-of_z (within_fits w64 {B = score_most} c.requires.unseen_within (omega arith))

-- its words are v, w and y
words : (c : After-triple) → words_of c.triple.result ≡ (c.args.v ∷ c.args.w ∷ c.args.y ∷ [])
words c = ap words_of c.triple.ensures ∙ words_back (c.args.v ∷ c.args.w ∷ c.args.y ∷ []) (omega arith)

pub returns-then-m-eq0 : goal.returns-then-m-eq0
returns-then-m-eq0 c = u-is (goal.at.returns-then-m-eq0 c).Start
    ∙ sym (unlisted_triple c.args.m.unseen (grams_in c.args.index.now c.args.m.count) c.args.v c.args.w c.args.y ∙ backs_to_u c.requires.listing c.if-m-eq0.true c.args.m.unseen c.args.v c.args.w c.args.y)

pub back_off-requires-clause-key_value : goal.back_off-requires-clause-key_value
back_off-requires-clause-key_value c = c.triple.ensures ∙ ap key_of (sym (words ((goal.at.back_off-requires-clause-key_value c).After-triple)))

pub returns : goal.returns
returns c = to_z-of_z {w = w64} (told {w = w64} c.back_off.type_inv) ∙ c.back_off.ensures ∙ ap₂ (λ (u : ℤ) (ws : List ℕ). unlisted_score u (grams_in c.args.index.now c.args.m.count) ws) (u-is (goal.at.returns c).Start) (words (goal.at.returns c).After-triple)
