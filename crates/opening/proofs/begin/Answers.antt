-- Where 9 and 10 pass, the B line is read; else the direction's refusal is the answer.
use Rattle.std.specs.declared.result.Result.TheVariants.{Ok}
use Rattle.meaning.specs.Direction.{direction_refusal}
use Rattle.loading.proofs.Replies.{reply_number}
use Rattle.opening.proofs.Starting.{prepared}
use Rattle.opening.proofs.begin.Goals as goal

pub returns : goal.returns
returns c = prepared c.args.direction.now c.requires (reply_number (direction_refusal c.args.direction.now) (Ok tt) c.in_ok-check_direction.ensures) c.setup_of.ensures
