-- How `solo` comes to its record: a shift on an empty core, and how far its record is printed.
use Rattle.std.specs.Prelude.{◌≡◌, ℕ, List, []}
use Rattle.outside_io.specs.Meanings.{SinkMeaning}
use Rattle.outside_io.specs.Puts.{SinkTold}
use Rattle.cell_base.specs.declared.cells.Cell.{Cell}
use Rattle.cell_base.specs.declared.shifts.Entry.{Entry}
use Rattle.cell_base.specs.declared.shifts.Shift.{Shift}
use Rattle.cell_base.specs.Fits.{CellFits, ShiftFits}
use Rattle.cell_base.specs.Histories.{after}
use Rattle.cell_base.specs.Rounds.{IsRoundRobin}
use Rattle.admission_core.specs.CoreState.{CoreState}
use Rattle.printer.specs.Printing.{Prints}
use Rattle.printer.specs.declared.printer.Printer.{Printer}
use Rattle.record_printer.specs.Blocks.{history_lines}
use Rattle.cell_walks.specs.Outcomes.{IsDelivered, done}
use Rattle.cell_walks.specs.declared.status.Status.{Status}
use Rattle.solo_command.specs.Solo.{IsSoloRecord}

-- a core without parts, and a shift that fits its cell
pub record IsAtStart (core : CoreState) (shift : Shift) : Type 0 where
  pub cell_fits : CellFits core.cell
  pub shift_fits : ShiftFits core.cell shift
  pub empty : core.parts ≡ []

-- the sessions have all ended, whatever became of the sink: the core is in the state after their history, whose head and entries were printed
pub record ArePrinted {K : Type 0} (sink : SinkMeaning K) (cell : Cell) (shift : Shift) (core : CoreState)
    (old new : Printer K) : Type 0 where
  pub history : List Entry
  pub rounds : IsRoundRobin cell [] shift history
  pub left : core ≡ record { cell = cell; parts = after cell [] history }
  pub prints : Prints sink old new (history_lines cell shift.number 0 history)

-- the record of the shift was delivered, with this status
pub record IsSoloDelivered (cell : Cell) (shift : Shift) (sink : SinkTold) (status : Status) : Type 0 where
  pub lines : List (List ℕ)
  pub recorded : IsSoloRecord cell shift lines
  pub delivered : IsDelivered sink (done lines) status
