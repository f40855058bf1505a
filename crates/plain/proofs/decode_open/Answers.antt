-- A direction is begun: it is refused, or searched with the index of the open book.
use Rattle.plain.proofs.Whole.{refused_direction}
use Rattle.plain.proofs.decode_open.Goals as goal

pub returns-in-Err : goal.returns-in-Err
returns-in-Err c = refused_direction _ _ _ _ _ _ _ c.requires.fact.passed (c.in-Err.ensures) c.refused.ensures
