-- What a command is: its tests in their order, where it opens its journal, and what it may answer.
use Rattle.std.specs.Prelude.{◌≡◌, ℕ, List, Option, Some, None, Result}
use Rattle.cell_base.specs.declared.cells.Cell.{Cell}
use Rattle.cell_base.specs.declared.shifts.Grant.{Grant}
use Rattle.journal_format.specs.declared.fault.JournalFault.{JournalFault}
use Rattle.outside_io.specs.Source.{SourceTold}
use Rattle.cell_walks.specs.Observed.{Source}
use Rattle.cell_walks.specs.Outcomes.{Outcome}
use Rattle.cell_walks.specs.declared.early_end.EarlyEnd.{EarlyEnd}
use Rattle.cell_walks.specs.declared.early_end.EarlyEnd.TheVariants.{WantOfMemory, Refused}
use Rattle.cell_walks.specs.declared.early_end.Refusal.{Refusal}
use Rattle.cell_walks.specs.declared.early_end.Subject.{Subject}
use Rattle.cell_walks.specs.declared.early_end.Subject.TheVariants.{Journal as OfJournal}

-- A test: where it looks, and what the bytes there read as, in one way alone: a value, or a fault. What is refused gives the status, and
-- the fault the line; want of memory has none.
pub record Test : Type 1 where
  pub Value : Type 0
  pub Fault : Type 0
  pub source : Source
  pub subject : Subject
  pub reads : List ℕ → Result Value Fault → Type 0
  pub one_way : (bytes : List ℕ) (first second : Result Value Fault) → reads bytes first → reads bytes second → first ≡ second
  pub line : Fault → Option (List ℕ)

-- its refusal with this line
abbrev pub refusal_of : Test → List ℕ → Refusal
refusal_of test line = record { subject = test.subject; line = line }

-- the end at a fault with this line; want of memory has none
abbrev pub end_with : Subject → Option (List ℕ) → EarlyEnd
end_with subject (Some line) = Refused (record { subject = subject; line = line })
end_with subject None = WantOfMemory

-- whether a command only reads its journal, or may add to it
pub data Purpose : Type 0 where
  ToRead : Purpose
  ToAdd : Purpose

-- a journal of a cell with its text, with room for so many grants, and the line of each of its faults
pub record Journal : Type 0 where
  pub purpose : Purpose
  pub cell : Cell
  pub text : List ℕ
  pub room : ℕ
  pub line : JournalFault → List ℕ

-- the refusal of a fault
abbrev pub refusal_by : Journal → JournalFault → Refusal
refusal_by journal why = record { subject = OfJournal; line = journal.line why }

pub data Walk : Type 1 where
  -- the test is made, and where it gives a value, the walk goes on with it
  Tests : (test : Test) → (test.Value → Walk) → Walk
  -- the journal is opened, and the walk goes on with the grants that it stands for
  Opens : (journal : Journal) → (List Grant → Walk) → Walk
  -- each of these outcomes may come, by the input that is read while it answers
  Answers : (SourceTold → Outcome → Type 0) → Walk
