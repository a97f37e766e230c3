-- The head and the lines of the entries so far are printed, and the rounds are under way.
use Rattle.std.proofs.Common.{◌≡◌, [], List}
use Rattle.cell_base.specs.declared.shifts.Entry.{Entry}
use Rattle.printer.specs.Printing.{Prints}
use Rattle.record_printer.specs.Blocks.{history_lines}
use Rattle.solo_rounds.specs.Asking.{AreAsking, AreReady, asks_left_in}
use Rattle.solo_command.proofs.playing.print_rounds.Given as goal

abbrev pub invariant-loop-entry : goal.invariant-loop-entry
invariant-loop-entry g l = record {
  cell : l.core.cell ≡ l.fn.core.cell;
  ready : AreReady l.shift l.rounds;
  history : List Entry;
  asking : AreAsking l.shift l.core [] history l.rounds;
  prints : Prints g.K.Sink l.fn.out l.out (history_lines l.fn.core.cell l.shift.number 0 history);
}

abbrev pub decreases-loop-entry : goal.decreases-loop-entry
decreases-loop-entry g l = asks_left_in l.shift l.rounds
