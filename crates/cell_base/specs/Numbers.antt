-- The numbers of the stages of a cell.
use Rattle.std.specs.Prelude.{◌≡◌, ℕ, ◌+◌, ◌<◌, length, take, slice_index_or}
use Rattle.std.specs.List.{sum_by}
use Rattle.cell_base.specs.declared.cells.Cell.{Cell}
use Rattle.cell_base.specs.declared.cells.JobType.{JobType}
use Rattle.cell_base.specs.Stages.{Stage, IsStage, stage, stages}

-- the number of the first stage of a type: how many stages the types before it have
abbrev pub first_number : Cell → ℕ → ℕ
first_number cell kind = sum_by (λ (t : JobType). length t.route) (take kind cell.types)

-- the number of a stage: types in the order of the cell, places upward
abbrev pub number_of : Cell → Stage → ℕ
number_of cell s = first_number cell s.kind + s.place

-- a number that some stage has
abbrev pub IsNumber : Cell → ℕ → Type 0
IsNumber cell n = n < length (stages cell)

-- the stage of a number
abbrev pub stage_numbered : Cell → ℕ → Stage
stage_numbered cell n = slice_index_or (stages cell) n (stage 0 0)

-- each stage has one number, and each number is that of one stage
pub record NumberingLaw (cell : Cell) : Type 0 where
  pub numbers : (s : Stage) → IsStage cell s → IsNumber cell (number_of cell s)
  pub numbered : (s : Stage) → IsStage cell s → stage_numbered cell (number_of cell s) ≡ s
  pub stages : (n : ℕ) → IsNumber cell n → IsStage cell (stage_numbered cell n)
  pub counted : (n : ℕ) → IsNumber cell n → number_of cell (stage_numbered cell n) ≡ n
