-- The way of a job from the first stage of its type to a last one.
use Rattle.std.specs.Prelude.{ℕ, ◌-◌, Bool, false, List, [], ◌∷◌, length, replicate, Option, Some, option_and_then}
use Rattle.std.specs.Option.{option_map_or}
use Rattle.cell_base.specs.Stages.{Stage, stage, successor, is_last, first_branch_path}
use Rattle.cell_base.specs.declared.cells.Cell.{Cell}

-- the stage at which a job of a type begins
abbrev pub first_stage : ℕ → Stage
first_stage kind = stage kind 0

-- the stage to which branches lead from a stage, where each of them is there
abbrev pub stage_after : Cell → Stage → List ℕ → Option Stage
stage_after cell s [] = Some s
stage_after cell s (branch ∷ branches) = option_and_then (λ t. stage_after cell t branches) (successor cell s branch)

-- each of them is there, and they lead to a last stage
abbrev pub lead_out : Cell → Stage → List ℕ → Bool
lead_out cell s branches = option_map_or (is_last cell) (stage_after cell s branches) false

-- branch 0 at each stage but the last of the path that goes on by branch 0
abbrev pub first_branches : Cell → ℕ → List ℕ
first_branches cell kind = replicate (length (first_branch_path cell (first_stage kind)) - 1) 0
