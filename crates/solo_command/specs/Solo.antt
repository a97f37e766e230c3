-- `solo CELL SHIFT`: a shift on the empty cell, its sessions in rounds.
use Rattle.std.specs.Prelude.{◌≡◌, ℕ, List, [], length}
use Rattle.std.specs.List.{concat}
use Rattle.cell_base.specs.declared.cells.Cell.{Cell}
use Rattle.cell_base.specs.declared.shifts.Entry.{Entry}
use Rattle.cell_base.specs.declared.shifts.Shift.{Shift}
use Rattle.cell_base.specs.Histories.{after}
use Rattle.cell_base.specs.Plans.{Drains, plan_of}
use Rattle.cell_base.specs.Rounds.{IsRoundRobin}
use Rattle.admission_core.specs.DecidedHistories.{AreDecided}
use Rattle.record_text.specs.Records.{text_of_record}
use Rattle.cell_walks.specs.Outcomes.{Outcome, done}
use Rattle.cell_walks.specs.Walks.{Walk, Tests, Answers}
use Rattle.record_printer.specs.Blocks.{planned_block}
use Rattle.cell_texts.specs.Tests.{cell_file, shift_file}

-- The record of a shift that runs on the empty cell: the history of its sessions in rounds, in which the policy decided each request by the
-- state before it, which it admits; and the plan of the state after it, which drains that state. Its lines one after the other are the
-- text of that record.
pub record IsSoloRecord (cell : Cell) (shift : Shift) (lines : List (List ℕ)) : Type 0 where
  pub history : List Entry
  pub rounds : IsRoundRobin cell [] shift history
  pub decided : AreDecided cell [] history
  pub drains : let left = after cell [] history in Drains cell left (plan_of cell left)
  pub printed : let left = after cell [] history in
      lines ≡ planned_block cell shift.number 0 history (length left) (plan_of cell left)
  pub text : concat lines ≡ text_of_record cell [] shift.number 0 history (plan_of cell (after cell [] history))

-- that record is printed
abbrev pub IsSoloShift : Cell → Shift → Outcome → Type 0
IsSoloShift cell shift outcome = (lines : List (List ℕ)) × IsSoloRecord cell shift lines × (outcome ≡ done lines)

abbrev pub solo : List ℕ → List ℕ → Walk
solo cell shift =
    Tests (cell_file cell) λ held.
    Tests (shift_file held.cell shift) λ s.
    Answers λ input outcome. IsSoloShift held.cell s outcome
