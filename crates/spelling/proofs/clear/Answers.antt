-- Each head is 0.
use Rattle.std.proofs.Common.{ℕ, List, ◌∙◌, ap, drop, get_or, rules, arith}
use lib.Seq.{length-take-le}
use Rattle.std.proofs.Math.ListN.{get_or-append}
use Rattle.std.proofs.lemmas.List.{get_or-replicate}
use Rattle.spelling.specs.Index.{head_at}
use Rattle.spelling.proofs.clear.Goals as goal

pub returns : goal.returns
unfolding head_at
returns c =
    let f = c.fill in
    let long = length-take-le 65537 c.args.index.now (omega arith) in
    record {
      none = λ h l.
          get_or-append f.new.self (drop 65537 c.args.index.now) 0 h (omega (arith, f.ensures.len, long))
          ∙ ap (λ (heads : List ℕ). get_or heads h 0) (f.ensures.after (λ y e. search rules))
          ∙ get_or-replicate _ h 0 0 (omega (arith, f.ensures.len, long));
    }
