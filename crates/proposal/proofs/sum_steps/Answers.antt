-- From state to state, what is left of the list asks and adds what the whole list does from the start.
use borrow.Author.Rules.{rules}
use Prim.Native.Nat.{◌+◌, ◌-◌, ◌^◌, ◌≤◌}
use native.Mathlib.Omega.{arith}
use mathlib.Core.Path.{◌≡◌, sym, ◌∙◌, ap}
use mathlib.Core.List.{[], ◌∷◌}
use lib.IntN.{ℤ}
use lib.Pow.{pow_mono, pow_pos}
use Rattle.std.proofs.lemmas.Result.{err_from_is_err_and}
use Rattle.laws.proofs.Got.{i64}
use Rattle.meaning.specs.Book.{book_of}
use Rattle.meaning.specs.Direction.{word_count}
use Rattle.meaning.specs.Reply.{Reply, done}
use Rattle.proposal.specs.Proposal.{step_in, steps_in}
use Rattle.proposal.proofs.Asking.{direction_few}
use Rattle.proposal.proofs.Scoring.{rest, rest_start, rest_next, rest_end, Scoring, scoring_starts, scoring_goes, scoring_stops, scoring_lacks, scoring_ends}
use Rattle.proposal.proofs.sum_steps.Goals as goal
use Rattle.proposal.proofs.sum_steps.Goals.{After-covered_with, After-loop-i, In-loop-i, Start}

-- the direction has 1 to 32 words
n-few : (b : Start) → (1 ≤ b.args.t.n) × (b.args.t.n ≤ 32)
unfolding word_count
n-few b =
    let d = direction_few b.args.direction.now b.requires.prepared.directed in
    let n = b.requires.prepared.n_is in
    let x = d.0 in
    let y = d.1 in
    (omega arith, omega arith)

-- one step more is left
left_next : (c : In-loop-i)
    → let l = c.loop-i in
    Scoring (book_of c.args.book.now) c.args.direction.now (steps_in c.args.steps.now c.args.count) l.s (step_in c.args.steps.now l.i ∷ rest c.args.steps.now c.args.count (l.i + 1))
left_next c =
    let l = c.loop-i in
    rw (rest_next c.args.steps.now c.args.count l.i (omega (arith, c.loop-i-test.true))) at l.invariant

-- none is left
left_none : (c : After-loop-i)
    → Scoring (book_of c.args.book.now) c.args.direction.now (steps_in c.args.steps.now c.args.count) c.loop-i.s []
left_none c =
    let l = c.loop-i in
    rw (rest_end c.args.steps.now c.args.count l.i (omega (arith, c.loop-i-test.false))) at l.invariant

-- all digits
all_ones : (c : After-covered_with) → c.covered_with.result ≡ 2 ^ word_count c.args.direction.now - 1
all_ones c = let n = c.requires.prepared.n_is in let e = rw n at c.covered_with.ensures in omega (arith, e)

pub loop-i-init : goal.loop-i-init
loop-i-init c =
    let b = c.args in
    rw (rest_start b.steps.now b.count) (scoring_starts (book_of b.book.now) b.direction.now (steps_in b.steps.now b.count))

pub returns-in_err-s : goal.returns-in_err-s
returns-in_err-s c =
    let b = c.args in
    let p = err_from_is_err_and c.from_residual.result c.from_residual.ensures.1 in
    rw (p.1, p.2) (scoring_stops (book_of b.book.now) b.direction.now (left_next (goal.at.returns-in_err-s c).In-loop-i) c.in_err-s.field-0.0 c.in_err-s.ensures)

pub loop-i-preserved : goal.loop-i-preserved
loop-i-preserved c =
    let b = c.args in
    scoring_goes (book_of b.book.now) b.direction.now (left_next (goal.at.loop-i-preserved c).In-loop-i) c.in_ok-s.ensures

pub covered_with-requires : goal.covered_with-requires
covered_with-requires c =
    let n = n-few (goal.at.covered_with-requires c).Start in
    let p = pow_mono {i = c.args.t.n} {j = 32} n.1 in
    let q = pow_pos c.args.t.n in
    (omega arith, (n.0, (n.1, omega (arith, p, q))))

pub returns-then-s-covered_with : goal.returns-then-s-covered_with
returns-then-s-covered_with c =
    let b = c.args in
    scoring_lacks (book_of b.book.now) b.direction.now (left_none (goal.at.returns-then-s-covered_with c).After-loop-i) (λ e. c.if-s-covered_with.true (e ∙ sym (all_ones (goal.at.returns-then-s-covered_with c).After-covered_with)))

pub returns : goal.returns
returns c =
    let b = c.args in
    let p : i64 c.loop-i.s.score ≡ c.loop-i.s.score = search rules in
    ap {B = Reply ℤ} done p ∙ scoring_ends (book_of b.book.now) b.direction.now (left_none (goal.at.returns c).After-loop-i) (c.if-s-covered_with.false ∙ all_ones (goal.at.returns c).After-covered_with)
