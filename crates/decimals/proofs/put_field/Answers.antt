-- A comma, and then the number.
use mir.Facts.{to_z-of_z}
use Rattle.decimals.proofs.Laws.{put_then}
use Rattle.decimals.proofs.put_field.Goals as goal

pub returns : goal.returns
returns c = put_then c.put_byte-digits.ensures (rw (to_z-of_z c.ranges.z) at c.put_number.ensures)
