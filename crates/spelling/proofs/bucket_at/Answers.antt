-- The line lies in the bucket of its bytes where the search among the lines before it finds none.
use mathlib.Core.Path.{sym, ap, ◌∙◌}
use native.Mathlib.Omega.{arith}
use Rattle.spelling.specs.Index.{bucket_of, spelled_before}
use Rattle.spelling.proofs.Words.{bucket_first, bucket_repeats}
use Rattle.spelling.proofs.bucket_at.Goals as goal

pub returns-in-Some : goal.returns-in-Some
returns-in-Some c =
    let e = ap (spelled_before c.args.list.now c.args.i) c.line_at-line.ensures in
    (bucket_repeats c.args.list.now c.args.i (λ z. absurd (omega (arith, c.in-Some.ensures, e))), omega arith)

pub returns-in-None : goal.returns-in-None
returns-in-None c =
    let l = c.line_at-line.ensures in
    let e = ap (spelled_before c.args.list.now c.args.i) l in
    (c.bucket-h.ensures.0 ∙ ap bucket_of l ∙ bucket_first c.args.list.now c.args.i (sym e ∙ c.in-None.ensures), omega (arith, c.bucket-h.ensures.1))
