-- An answer to at most 32 words is printed in at most 4,096 bytes; and what the program prints is no longer than the list that it is put into.
use Prim.Native.Nat.{ℕ, ◌≤◌, ◌<◌}
use native.Mathlib.Omega.{arith}
use mathlib.Core.Path.{◌≡◌, sym, ap, ◌∙◌, subst}
use mathlib.Core.List.{List, Memᴰ}
use lib.ListN.{length, get_or, take, drop, length-take, length-append}
use lib.Seq.{get_or-take}
use Rattle.laws.proofs.Lists.{mem_get_d}
use Rattle.meaning.specs.Bounds.{word_span}
use Rattle.meaning.specs.Reply.{written_over}
use Rattle.meaning.specs.Render.{rendered}
use Rattle.meaning.specs.declared.Answer.{Answer}
use Rattle.records.proofs.Laws.{count_steps}
use Rattle.records.specs.Plain.{steps_of}
use Rattle.printing.specs.Lines.{plain_of}
use Rattle.printing.proofs.Lengths.{answer_short, steps_small}
use Rattle.rendering.specs.Parts.{Fits, printed_done}

-- the numbers of an answer are of 16 bits
pub done_short : (a : Answer) (numbers words : List ℕ) → Fits a → ((i : ℕ) → get_or numbers i 0 < word_span) → ((i : ℕ) → get_or words i 0 < word_span)
    → length (printed_done a numbers words) ≤ 4_096
done_short a numbers words f small fit =
    answer_short a (steps_of (plain_of numbers a.steps)) (take a.words words) f.score f.steps f.words (omega (arith, f.states)) f.in_all_lem
    (omega (arith, count_steps (plain_of numbers a.steps) a.steps, f.steps)) (steps_small numbers a.steps small)
    (omega (arith, length-take a.words words, f.words)) each
  where
    each : (w : ℕ) → Memᴰ w (take a.words words) → w < word_span
    each w m =
        let r = mem_get_d (take a.words words) 0 m in
        let l : r.0 < a.words = omega (arith, length-take a.words words, r.1) in
        subst (λ (n : ℕ). n < word_span) (sym (get_or-take a.words words r.0 0 l) ∙ r.2) (fit r.0)

pub rendered_inside : (book direction old : List ℕ) {new : List ℕ} {r : ℕ} → r ≡ length (rendered book direction) → new ≡ written_over (rendered book direction) old → r ≤ length new
rendered_inside book direction old e w = omega (arith, e, ap length w, length-append (rendered book direction) (drop (length (rendered book direction)) old))
