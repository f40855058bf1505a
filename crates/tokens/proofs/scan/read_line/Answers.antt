-- The line is read a field at a time (Reading): a byte 10 or the text's end ends it.
use Rattle.std.proofs.Common.{◌≡◌, ◌+◌, drop, rules, arith}
use Rattle.arpa.specs.Lines.{is_blank}
use Rattle.tokens.specs.Scan.{run_length, is_space, is_part}
use Rattle.tokens.proofs.Runs.{run_inside}
use Rattle.tokens.proofs.Reading.{reading_start, some_byte, reading_more, reading_none, reading_line}
use Rattle.tokens.proofs.scan.read_line.Goals as goal
use Rattle.tokens.proofs.scan.read_line.Goals.{then-loop-next-test+else-text-next-ne10, else-loop-next-test}

pub loop-next-init : goal.loop-next-init
loop-next-init c = reading_start c.args.text.now c.args.at c.args.places.now (omega arith) (c.run_end-next.ensures is_space (λ b r e. e))

pub run_end-next-requires-in-loop-next-clause-at_in_bounds : goal.run_end-next-requires-in-loop-next-clause-at_in_bounds
run_end-next-requires-in-loop-next-clause-at_in_bounds c =
    let e : c.run_end-end.result ≡ c.loop-next.next + run_length is_part (drop c.loop-next.next c.args.text.now) = c.run_end-end.ensures is_part (λ b r e. search rules) in
    omega (arith, run_inside is_part c.args.text.now c.loop-next.next (omega arith))

-- one field more
pub loop-next-smaller : goal.loop-next-smaller
loop-next-smaller c =
    let e : c.run_end-end.result ≡ c.loop-next.next + run_length is_part (drop c.loop-next.next c.args.text.now) = c.run_end-end.ensures is_part (λ b r e. search rules) in
    omega (arith, some_byte c.loop-next.invariant (omega arith) (omega arith) c.if-text-next-ne10.true, c.run_end-next-in-loop-next.ensures is_blank (λ b r e. e))

pub loop-next-preserved : goal.loop-next-preserved
loop-next-preserved c = rw c.note.ensures
    (reading_more c.loop-next.invariant (omega arith) (omega arith) c.if-text-next-ne10.true
    (c.run_end-end.ensures is_part (λ b r e. search rules)) (c.run_end-next-in-loop-next.ensures is_blank (λ b r e. e)))

pub returns-then-count-eq0-clause-line_read : goal.returns-then-count-eq0-clause-line_read
returns-then-count-eq0-clause-line_read c = reading_none c.loop-next.invariant
    (elim c.loop-next-test.branch [ then-loop-next-test+else-text-next-ne10 w ↦ λ l. w.if-text-next-ne10.false | else-loop-next-test w ↦ λ l. absurd (omega arith) ]) c.if-count-eq0.true

pub returns-clause-line_read : goal.returns-clause-line_read
returns-clause-line_read c = reading_line c.loop-next.invariant
    (elim c.loop-next-test.branch [ then-loop-next-test+else-text-next-ne10 w ↦ λ l. w.if-text-next-ne10.false | else-loop-next-test w ↦ λ l. absurd (omega arith) ]) (omega arith)
