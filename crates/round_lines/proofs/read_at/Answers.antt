-- The 32 places are a part of the list.
use Rattle.round_lines.proofs.Placing.{placed}
use Rattle.round_lines.proofs.read_at.Goals as goal

pub returns : goal.returns
returns c =
    let k = c.read_direction in
    placed c.args.text.now c.args.at c.args.directions.now c.requires k.new.direction k.result k.ensures.result_value k.ensures.direction_after
