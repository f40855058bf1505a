-- The digits that follow, and then the mark.
use Rattle.fields.proofs.Fields.{field_on}
use Rattle.fields.proofs.rest_of_number.Goals as goal

pub returns : goal.returns
returns c =
    let k = c.read_digits-digits.ensures in
    λ book. rw (← c.from.ensures) (field_on c.end_number.result (k.on book c.args.minus) k.later (c.end_number.ensures book))
