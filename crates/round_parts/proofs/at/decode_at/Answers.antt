-- The part that is lent is the places of direction k.
use Rattle.round_parts.proofs.Places.{mid_is, mid_put}
use Rattle.round_parts.proofs.at.decode_at.Goals as goal

pub returns : goal.returns
returns c = record {
  places = c.decode_open.new.words;
  decodes = rw (c.requires.room_value.0, mid_is 256 c.args.k c.args.words.now) at c.decode_open.ensures;
  words_are = mid_put 256 c.args.k c.args.words.now c.decode_open.new.words;
}
