-- A record of the words lies in their bucket, so the chain of that bucket meets it, latest first. The measure is the place: a link goes to an earlier record.
use mathlib.Core.Path.{◌∙◌}
use Rattle.ngrams.proofs.Keys.{holds_is}
use Rattle.ngrams.proofs.Index.{index_start, index_hit, index_step, index_less, index_out}
use Rattle.ngrams.proofs.find.Goals as goal

pub loop-next-init : goal.loop-next-init
loop-next-init c = index_start c.requires c.args.key c.bucket.ensures.0 c.bucket.ensures.1 c.link_at-next.ensures

pub returns-then-eq : goal.returns-then-eq
returns-then-eq c = index_hit c.requires c.args.key (rw c.in-Some.is at c.loop-next.invariant) (holds_is c.args.index.now c.args.key c.in-Some.k c.key_at.ensures c.eq.ensures ∙ c.if-eq.true)

pub loop-next-smaller : goal.loop-next-smaller
loop-next-smaller c = rw c.in-Some.is (index_less c.requires c.args.key (rw c.in-Some.is at c.loop-next.invariant) c.link_at-next-in-Some.ensures)

pub loop-next-preserved : goal.loop-next-preserved
loop-next-preserved c = index_step c.requires c.args.key (rw c.in-Some.is at c.loop-next.invariant) c.link_at-next-in-Some.ensures (holds_is c.args.index.now c.args.key c.in-Some.k c.key_at.ensures c.eq.ensures ∙ c.if-eq.false)

pub returns : goal.returns
returns c = index_out c.requires c.args.key (rw c.in_default.is at c.loop-next.invariant)
