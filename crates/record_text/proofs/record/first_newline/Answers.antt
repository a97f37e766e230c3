-- The first byte that is a newline is the first place of one.
use Rattle.record_text.specs.BadLines.{is_newline}
use Rattle.record_text.proofs.Pieces.{first_place}
use Rattle.record_text.proofs.record.first_newline.Goals as goal

pub returns : goal.returns
returns c = first_place is_newline c.args.bytes.now c.memchr.result c.memchr.ensures
