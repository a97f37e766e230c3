-- What was told, and then what is left.
use Rattle.std.proofs.Common.{ap}
use Rattle.admission_core.specs.CoreState.{CoreState}
use Rattle.record_printer.specs.Blocks.{left_in_core}
use Rattle.printer.proofs.Sequences.{prints_as, prints_more}
use Rattle.queue_command.specs.Lines.{board_lines}
use Rattle.queue_command.proofs.printing.print_board.Goals as goal

pub returns : goal.returns
unfolding board_lines
returns g c =
    prints_more c.print_told.ensures (prints_as (ap (λ (core : CoreState). left_in_core core) c.into_core.ensures) c.print_left.ensures)
