-- The lines before i have their starts, and line i, if there is one, starts at `at`.
use Rattle.std.proofs.Common.{◌≡◌, ◌+◌, drop, subst, rules, arith}
use Rattle.spelling.specs.Lines.{line_size, is_in_line, Lined}
use Rattle.spelling.proofs.Lines.{read_more, read_all, read_most}
use Rattle.tokens.proofs.Runs.{run_inside}
use Rattle.spelling.proofs.find_lines.Goals as goal

pub overflow_add-at : goal.overflow_add-at
overflow_add-at c =
    let e : c.run_end-at.result ≡ c.loop-i.at + line_size (drop c.loop-i.at c.args.list.now) = c.run_end-at.ensures is_in_line (λ b r e. search rules) in
    omega (arith, run_inside is_in_line c.args.list.now c.loop-i.at c.if-list-at.false)

pub loop-i-preserved : goal.loop-i-preserved
loop-i-preserved c = read_more c.loop-i.invariant (omega arith) c.if-list-at.false c.run_end-at.result (c.run_end-at.ensures is_in_line (λ b r e. search rules))

pub returns-then-list-at : goal.returns-then-list-at
returns-then-list-at c = read_all c.loop-i.invariant c.if-list-at.true

pub returns : goal.returns
returns c =
    let l = c.loop-i in
    let e : l.i ≡ 65534 = omega arith in
    subst (Lined c.args.list.now l.starts) e (read_most l.invariant (omega arith))
