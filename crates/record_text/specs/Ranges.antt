-- Entries and steps that have a line: their ids fit the cell, and their numbers are in the range of their types.
use Rattle.std.specs.Prelude.{◌<◌, ◌^◌, ⊤}
use Rattle.cell_base.specs.declared.cells.Cell.{Cell}
use Rattle.cell_base.specs.declared.requests.Request.{Request}
use Rattle.cell_base.specs.declared.requests.Refusal.{Refusal}
use Rattle.cell_base.specs.declared.requests.Refusal.TheVariants.{Saturated}
use Rattle.cell_base.specs.declared.requests.Reply.TheVariants.{Granted, Refused}
use Rattle.cell_base.specs.declared.requests.Told.{Told}
use Rattle.cell_base.specs.declared.requests.Told.TheVariants.{Answered, Halted}
use Rattle.cell_base.specs.declared.shifts.Entry.{Entry}
use Rattle.step_text.specs.Steps.{IsStep, job_number}
use Rattle.record_text.specs.Fitting.{EntryFits}

-- the numbers of a saturation are 32 bits each
abbrev pub RefusalInRange : Refusal → Type 0
RefusalInRange (Saturated at count capacity) = (count < 2 ^ 32) × (capacity < 2 ^ 32)
RefusalInRange why = ⊤

-- the same of what was told
abbrev pub ToldInRange : Told → Type 0
ToldInRange (Answered Granted) = ⊤
ToldInRange (Answered (Refused why)) = RefusalInRange why
ToldInRange Halted = ⊤

-- an entry that has a line
pub record EntryIsWritten (cell : Cell) (entry : Entry) : Type 0 where
  pub fits : EntryFits cell entry
  pub session : entry.session < 2 ^ 16
  pub job : job_number entry.request < 2 ^ 32
  pub told : ToldInRange entry.told

-- a step of a plan that has a line
pub record StepIsWritten (cell : Cell) (request : Request) : Type 0 where
  pub step : IsStep cell request
  pub job : job_number request < 2 ^ 32
