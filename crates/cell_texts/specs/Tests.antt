-- What the files and the words of a command read as: their tests.
use Rattle.std.specs.Prelude.{codes, ℕ, List, Option, Some, Result, Ok, Err}
use Rattle.std.specs.Option.{option_map}
use Rattle.cell_base.specs.declared.cells.Cell.{Cell}
use Rattle.cell_base.specs.declared.requests.Request.{Request}
use Rattle.cell_base.specs.declared.shifts.Shift.{Shift}
use Rattle.cell_file.specs.Walk.{cell_of}
use Rattle.cell_file.specs.declared.faults.CellFault.{CellFault}
use Rattle.record_text.specs.declared.blocks.Block.{Block}
use Rattle.record_text.specs.declared.record.RecordFault.{RecordFault}
use Rattle.shift_file.specs.Walk.{shift_of}
use Rattle.shift_file.specs.declared.faults.ShiftFault.{ShiftFault}
use Rattle.step_text.specs.Steps.{step_of}
use Rattle.step_text.specs.declared.faults.StepFault.{StepFault}
use Rattle.cell_walks.specs.Observed.{File, Word}
use Rattle.cell_walks.specs.Walks.{Test}
use Rattle.cell_walks.specs.declared.early_end.Subject.TheVariants.{Cell as OfCell, Input}
use Rattle.cell_texts.specs.FaultNumbers.{cell_fault_code, shift_fault_code}
use Rattle.cell_texts.specs.Texts.{refusal_text, step_refused}
use Rattle.cell_texts.specs.declared.readers.CellFile.{CellFile}
use Rattle.cell_texts.specs.OneWay.{reads_by, once}
use Rattle.cell_texts.specs.RecordReads.{record_line, record_once, record_reads}

-- ---- files

-- a cell, and the text that it was read from
pub record KnownCell : Type 0 where
  pub cell : Cell
  pub text : List ℕ

-- the same of a cell file that is held
abbrev pub known : CellFile → KnownCell
known held = record { cell = held.cell; text = held.text.items }

-- a cell that was read, with its text
abbrev pub with_text : List ℕ → Result Cell CellFault → Result KnownCell CellFault
with_text bytes (Ok cell) = Ok (record { cell = cell; text = bytes })
with_text bytes (Err fault) = Err fault

-- the line of a fault of a cell file; want of memory has none
abbrev pub cell_fault_line : CellFault → Option (List ℕ)
cell_fault_line fault = option_map (refusal_text (codes "cell")) (cell_fault_code fault)

-- these bytes read as a cell with its text, or have this fault
abbrev pub cell_reads : List ℕ → Result KnownCell CellFault → Type 0
cell_reads = reads_by (λ bytes. with_text bytes (cell_of bytes))

-- a cell file, status 4
abbrev pub cell_file : List ℕ → Test
cell_file name = record {
  Value = KnownCell;
  Fault = CellFault;
  source = File name;
  subject = OfCell;
  reads = cell_reads;
  one_way = once (λ bytes. with_text bytes (cell_of bytes));
  line = cell_fault_line;
}

-- the same of a shift file
abbrev pub shift_fault_line : ShiftFault → Option (List ℕ)
shift_fault_line fault = option_map (refusal_text (codes "shift")) (shift_fault_code fault)

-- a shift file for this cell, status 5
abbrev pub shift_file : Cell → List ℕ → Test
shift_file cell name = record {
  Value = Shift;
  Fault = ShiftFault;
  source = File name;
  subject = Input;
  reads = reads_by (shift_of cell);
  one_way = once (shift_of cell);
  line = shift_fault_line;
}

-- a record of this cell, status 5
abbrev pub record_file : Cell → List ℕ → Test
record_file cell name = record {
  Value = List Block;
  Fault = RecordFault;
  source = File name;
  subject = Input;
  reads = record_reads cell;
  one_way = record_once cell;
  line = record_line;
}

-- ---- words

-- and of a word that is no step
abbrev pub step_fault_line : StepFault → Option (List ℕ)
step_fault_line fault = Some step_refused

-- a word that is a step of the cell, status 5
abbrev pub step : Cell → List ℕ → Test
step cell word = record {
  Value = Request;
  Fault = StepFault;
  source = Word word;
  subject = Input;
  reads = reads_by (step_of cell);
  one_way = once (step_of cell);
  line = step_fault_line;
}
