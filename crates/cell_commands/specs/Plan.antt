-- `plan CELL JOURNAL`: the plan that empties the cell after the grants of the journal.
use Rattle.std.specs.Prelude.{◌≡◌, ℕ, List, [], length}
use Rattle.std.specs.List.{concat}
use Rattle.cell_base.specs.declared.cells.Cell.{Cell}
use Rattle.cell_base.specs.declared.shifts.Grant.{Grant}
use Rattle.cell_base.specs.Histories.{replay}
use Rattle.cell_base.specs.Plans.{Drains, plan_of}
use Rattle.record_text.specs.Records.{text_of_record}
use Rattle.cell_walks.specs.Outcomes.{Outcome, done}
use Rattle.cell_walks.specs.Walks.{Walk, Tests, Opens, Answers}
use Rattle.record_printer.specs.Blocks.{planned_block}
use Rattle.cell_texts.specs.Tests.{KnownCell, cell_file}
use Rattle.journal_texts.specs.Tests.{to_read}

-- The record of no shift after these grants is printed: the plan of the state that they leave, which drains that state.
pub record IsPlanned (cell : Cell) (grants : List Grant) (outcome : Outcome) : Type 0 where
  pub drains : let left = replay cell grants in Drains cell left (plan_of cell left)
  pub is : let left = replay cell grants in
      outcome ≡ done (planned_block cell 0 (length grants) [] (length left) (plan_of cell left))
  pub text : let left = replay cell grants in concat outcome.pieces ≡ text_of_record cell left 0 (length grants) [] (plan_of cell left)

-- what is answered after the grants of a journal
abbrev pub planned : KnownCell → List Grant → Walk
planned held grants = Answers λ input outcome. IsPlanned held.cell grants outcome

-- its walk from the cell on
abbrev pub plan_journal : KnownCell → Walk
plan_journal held = Opens (to_read held) (planned held)

abbrev pub plan : List ℕ → Walk
plan cell = Tests (cell_file cell) plan_journal
