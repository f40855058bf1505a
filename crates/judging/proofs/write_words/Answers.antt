-- The words of one step after another; those that are written stay.
use native.Mathlib.Omega.{arith}
use mathlib.Core.Path.{refl, ◌∙◌, ap, subst}
use Prim.Native.Nat.{◌+◌}
use lib.ListN.{length}
use Rattle.meaning.specs.Book.{book_of}
use Rattle.meaning.specs.Derivation.{entry_at, target_words}
use Rattle.derivation.specs.Model.{PhraseOf}
use Rattle.meaning.specs.declared.Step.{Step}
use Rattle.records.specs.Plain.{step_in, steps_to}
use Rattle.laws.proofs.Fill.{over_long}
use Rattle.judging.proofs.Words.{write_count, write_more}
use Rattle.judging.proofs.write_words.Goals as goal

pub loop-k-init : goal.loop-k-init
unfolding target_words
loop-k-init c = record { few = omega arith; long = refl; counted = refl; written = refl }

pub loop-k-preserved : goal.loop-k-preserved
loop-k-preserved c =
    let l = c.loop-k in
    let k = l.k in
    let book = book_of c.args.book.now in
    let p = c.phrase_at-p.result in
    let of : PhraseOf c.args.book.now (entry_at book (step_in c.args.plain k).entry) p =
    subst (λ (x : Step). PhraseOf c.args.book.now (entry_at book x.entry) p) c.step_in-step.ensures c.phrase_at-p.ensures in
    let few = of.target_at.few in
    let more = write_count book c.args.plain k c.args.words.now l.invariant.counted of.target_at.many_are in
    let a = l.invariant.few in
    let h = c.loop-k-test.true in
    let room = c.requires.count_bound.1 in
    let written = write_more book c.args.plain k c.args.words.now l.invariant.written l.invariant.counted (c.copy_words.ensures _ of) in
    record {
      few = omega arith;
      long = ap length written ∙ over_long (target_words book (steps_to c.args.plain (k + 1))) c.args.words.now (omega arith);
      counted = more;
      written = written;
    }
