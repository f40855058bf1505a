-- What was decoded fits the output, and what is put is printed as the definition says.
use mathlib.Core.Path.{refl}
use Rattle.decimals.proofs.Laws.{put_is}
use Rattle.rendering.proofs.Answered.{reply_fits, reply_prints}
use borrow.Author.Rules.{rules}
use Rattle.rendering.proofs.put_decode.Goals as goal

pub put_decoded-requires-clause-fits_decoded : goal.put_decoded-requires-clause-fits_decoded
put_decoded-requires-clause-fits_decoded c = reply_fits _ _ _ _ _ _ _ c.decode_plain-told.ensures refl (search rules) refl

pub returns : goal.returns
returns c = put_is (reply_prints _ _ _ _ _ _ _ c.decode_plain-told.ensures refl (search rules) refl) c.put_decoded.ensures
