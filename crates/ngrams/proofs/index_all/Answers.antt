-- What the records before i answer goes into the answer of those up to i.
use native.Mathlib.Omega.{arith}
use Prim.Native.Nat.{ℕ, ◌+◌}
use mathlib.Core.Path.{◌≡◌, refl, sym, ap, ◌∙◌}
use Rattle.ngrams.specs.Grams.{key_at, firsts, earlier_alike, repeat_refusal, with_repeat}
use Rattle.ngrams.proofs.Parts.{kept_records, records_all, records_then}
use Rattle.ngrams.proofs.Index.{kept_room, index_none}
use Rattle.ngrams.proofs.Differ.{repeat_more, kept_repeats}
use Rattle.ngrams.proofs.index_all.Goals as goal

pub loop-i-init : goal.loop-i-init
unfolding repeat_refusal firsts
loop-i-init c =
    let k = c.clear.ensures in
    record {
      indexed = index_none c.requires k;
      room = kept_room (kept_records k.kept) c.requires;
      kept = records_all c.clear.new.index;
      answer = refl;
    }

pub loop-i-preserved : goal.loop-i-preserved
loop-i-preserved c =
    let l = c.loop-i in
    let k = c.insert.ensures in
    record {
      indexed = k.indexed;
      room = kept_room k.kept l.invariant.room;
      kept = records_then l.invariant.kept k.kept;
      answer =
          c.with_repeat-found.ensures
          ∙ ap (λ (n : ℕ). with_repeat n (earlier_alike l.index l.i) (key_at l.index l.i).order) l.invariant.answer
          ∙ sym (repeat_more l.index l.i)
          ∙ sym (kept_repeats k.kept (l.i + 1));
    }

pub returns : goal.returns
returns c =
    let l = c.loop-i in
    let e : l.i ≡ c.args.count = omega arith in
    let same = records_then (kept_records c.clear.ensures.kept) l.invariant.kept in
    record {
      answer = l.invariant.answer ∙ ap (repeat_refusal l.index) e ∙ kept_repeats same c.args.count;
      indexed = rw e at l.invariant.indexed;
      kept = same;
    }
