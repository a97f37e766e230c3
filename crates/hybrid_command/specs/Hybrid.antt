-- `hybrid CELL SHIFT`: a shift on the empty cell under the hybrid policy, its sessions in rounds.
use Rattle.std.specs.Prelude.{◌≡◌, ℕ, List, [], length}
use Rattle.cell_base.specs.declared.cells.Cell.{Cell}
use Rattle.cell_base.specs.declared.shifts.Shift.{Shift}
use Rattle.banker_check.specs.Hybrid.{IsHybrid}
use Rattle.banker_check.specs.HybridPlans.{DrainsHybrid, plan_h_of}
use Rattle.hybrid_rounds.specs.declared.entries.HybridEntry.{HybridEntry}
use Rattle.hybrid_rounds.specs.Histories.{after_h}
use Rattle.hybrid_rounds.specs.Rounds.{IsHybridRoundRobin}
use Rattle.cell_walks.specs.Outcomes.{Outcome, done}
use Rattle.cell_walks.specs.Walks.{Walk, Tests, Answers}
use Rattle.cell_texts.specs.Tests.{KnownCell, cell_file, shift_file}
use Rattle.hybrid_command.specs.Lines.{hybrid_block}

-- The record of a shift that runs on the empty cell: the history of its sessions in rounds, each told by the hybrid, and the plan of the
-- state after it. That state is one that the policy admits, or whose parts have an order, and the plan drains it.
pub record IsHybridRecord (cell : Cell) (shift : Shift) (lines : List (List ℕ)) : Type 0 where
  pub history : List HybridEntry
  pub rounds : IsHybridRoundRobin cell [] shift history
  pub kept : IsHybrid cell (after_h cell [] history)
  pub drains : let left = after_h cell [] history in DrainsHybrid cell left (plan_h_of cell left)
  pub printed : let left = after_h cell [] history in
      lines ≡ hybrid_block cell shift.number history (length left) (plan_h_of cell left)

-- that record is printed
abbrev pub IsHybridShift : Cell → Shift → Outcome → Type 0
IsHybridShift cell shift outcome = (lines : List (List ℕ)) × IsHybridRecord cell shift lines × (outcome ≡ done lines)

-- its walk from the cell on
abbrev pub play_hybrid : List ℕ → KnownCell → Walk
play_hybrid shift held =
    Tests (shift_file held.cell shift) λ s.
    Answers λ input outcome. IsHybridShift held.cell s outcome

abbrev pub hybrid : List ℕ → List ℕ → Walk
hybrid cell shift = Tests (cell_file cell) (play_hybrid shift)
