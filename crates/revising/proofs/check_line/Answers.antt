-- The questions of the line, in their order (Replies).
use native.Mathlib.Omega.{arith}
use mathlib.Core.Path.{sym, ◌∙◌}
use Rattle.meaning.specs.Revision.{line_refusal}
use Rattle.meaning.specs.declared.Refusal.TheVariants.{NumberRange, LineCount, ListTooShort}
use Rattle.meaning.proofs.Chains.{reply_done}
use Rattle.meaning.proofs.Numbered.{refused_reply}
use Rattle.revising.proofs.Books.{in_use}
use Rattle.revising.proofs.Replies.{line_four, line_five, line_seven, line_none}
use Rattle.revising.proofs.check_line.Goals as goal

pub returns-then-not-ranges_p : goal.returns-then-not-ranges_p
returns-then-not-ranges_p c = let a = c.args in let b = in_use a.list.now a.used c.requires in refused_reply NumberRange (line_refusal a.list.now a.used a.line.now) tt (line_four b a.line.now (sym c.is_entry.ensures ∙ c.if-not-is_entry.false) (sym c.ranges_p.ensures ∙ c.if-not-ranges_p.true))

pub returns-then-natural_at-ge-PHRASES_MOST : goal.returns-then-natural_at-ge-PHRASES_MOST
returns-then-natural_at-ge-PHRASES_MOST c = let a = c.args in let b = in_use a.list.now a.used c.requires in refused_reply LineCount (line_refusal a.list.now a.used a.line.now) tt (line_five b a.line.now (sym c.is_entry.ensures ∙ c.if-not-is_entry.false) (sym c.ranges_p.ensures ∙ c.if-not-ranges_p.false) (omega (arith, c.natural_at.ensures, c.if-natural_at-ge-PHRASES_MOST.true)))

pub overflow_sub-list : goal.overflow_sub-list
overflow_sub-list c = (in_use c.args.list.now c.args.used c.requires).room

pub returns-then-list-used : goal.returns-then-list-used
returns-then-list-used c = let a = c.args in let b = in_use a.list.now a.used c.requires in refused_reply ListTooShort (line_refusal a.list.now a.used a.line.now) tt (line_seven b a.line.now (sym c.is_entry.ensures ∙ c.if-not-is_entry.false) (sym c.ranges_p.ensures ∙ c.if-not-ranges_p.false) (omega (arith, c.natural_at.ensures, c.if-natural_at-ge-PHRASES_MOST.false)) c.if-list-used.true)

pub returns : goal.returns
returns c = let a = c.args in let b = in_use a.list.now a.used c.requires in sym (reply_done (line_refusal a.list.now a.used a.line.now) tt (line_none b a.line.now (sym c.is_entry.ensures ∙ c.if-not-is_entry.false) (sym c.ranges_p.ensures ∙ c.if-not-ranges_p.false) (omega (arith, c.natural_at.ensures, c.if-natural_at-ge-PHRASES_MOST.false)) c.if-list-used.false))
