-- That the answer is exact.
use Rattle.std.proofs.Common.{arith}
use Rattle.record_text.proofs.StartExact.{answers_complete, answers_found, answers_refused}
use Rattle.record_text.proofs.start.read_start.Goals as goal

pub returns-clause-found : goal.returns-clause-found
returns-clause-found c =
    answers_found c.args.cell.now c.requires c.args.bytes.now (omega (arith, c.if-bytes-gt-MAX_START_BYTES.false)) c.read_lines.result
    (rw c.over.ensures at c.read_lines.ensures)

pub returns-clause-complete : goal.returns-clause-complete
returns-clause-complete c =
    answers_complete c.args.cell.now c.requires c.args.bytes.now c.read_lines.result (rw c.over.ensures at c.read_lines.ensures)

pub returns-clause-refused : goal.returns-clause-refused
returns-clause-refused c =
    answers_refused c.args.cell.now c.requires c.args.bytes.now (omega (arith, c.if-bytes-gt-MAX_START_BYTES.false)) c.read_lines.result
    (rw c.over.ensures at c.read_lines.ensures)
