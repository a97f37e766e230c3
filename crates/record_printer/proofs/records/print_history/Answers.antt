-- The head, and then the entries.
use Rattle.printer.proofs.Sequences.{prints_first}
use Rattle.record_printer.proofs.records.print_history.Goals as goal

pub returns : goal.returns
returns g c = prints_first c.head_line.ensures c.line.ensures c.print_entries.ensures
