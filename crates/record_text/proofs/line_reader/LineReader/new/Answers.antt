-- Nothing has been read.
use Rattle.std.proofs.Common.{arith}
use Rattle.record_text.proofs.LinesRead.{none_read}
use Rattle.record_text.proofs.line_reader.LineReader.new.Goals as goal

pub returns-clause-begun : goal.returns-clause-begun
returns-clause-begun c =
    none_read c.args.cell.now c.args.bytes.now (omega (arith, c.if-bytes-gt-MAX_RECORD_BYTES.false))
