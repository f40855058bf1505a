-- The first question that refuses gives the refusal, and the questions of a round are those of its definition.
use Prim.Native.Nat.{ℕ, zero, suc, ◌*◌}
use mathlib.Core.Path.{◌≡◌, refl, ap, ◌∙◌}
use mathlib.Core.Bool.{Bool, true, false, ◌&&◌}
use mathlib.Core.List.{List}
use lib.Dec.{leb}
use lib.IntN.{ℤ}
use lib.ListN.{length}
use Rattle.laws.specs.Lists.{all}
use Rattle.meaning.specs.Questions.{◌unless◌, ◌orelse◌, within, number}
use Rattle.meaning.specs.Book.{book_refusal}
use Rattle.meaning.specs.Reply.{Lent}
use Rattle.meaning.specs.Round.{are_rising, are_ends, round_refusal}
use Rattle.round_parts.specs.Asked.{behind_book}
use Rattle.meaning.specs.declared.Refusal.{Refusal}
use Rattle.meaning.proofs.Numbered.{number_from, refused_first}

pub refused_at_once : {k : ℕ} (m : ℕ) (refusal : Refusal) → k ≡ number refusal → k orelse m ≡ number refusal
refused_at_once m refusal e = ap (λ (k : ℕ). k orelse m) e ∙ refused_first (number refusal) m (number_from refusal)

pub refused_behind : {k m : ℕ} (refusal : Refusal) → k ≡ 0 → m ≡ number refusal → k orelse m ≡ number refusal
refused_behind {k} {m} refusal z e = ap (λ (k : ℕ). k orelse m) z ∙ e

grouped : (a b c : Bool) → (a && b) && c ≡ a && (b && c)
grouped true b c = refl
grouped false b c = refl

regrouped : (a b c d : ℕ) → (a orelse (b orelse c)) orelse d ≡ a orelse (b orelse (c orelse d))
regrouped zero zero c d = refl
regrouped zero (suc b) c d = refl
regrouped (suc a) b c d = refl

-- the questions as they are asked are those of the definition, whatever form the steps have
pub asked_is : (loaded : List ℤ) (directions ends : List ℕ) (lent : Lent) (answers : ℕ) (enough : Bool)
    → (round_refusal loaded directions ends lent answers orelse 7 unless enough)
    ≡ book_refusal loaded orelse behind_book (length directions) ends (record { steps = lent.steps; words = lent.words; answers = answers; enough = enough })
unfolding round_refusal are_ends
asked_is loaded directions ends lent answers enough =
    let room = leb (32 * length ends) lent.steps && leb (256 * length ends) lent.words && leb (9 * length ends) answers in
    regrouped (book_refusal loaded) (26 unless (within 1 64 (length ends) && are_rising 0 ends && all (λ end. leb end (length directions)) ends)) (12 unless room) (7 unless enough)
    ∙ ap (λ (b : Bool). book_refusal loaded orelse 26 unless b orelse 12 unless room orelse 7 unless enough)
    (grouped (within 1 64 (length ends)) (are_rising 0 ends) (all (λ end. leb end (length directions)) ends))
