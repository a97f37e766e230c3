-- The parts of a cell in the order of their arrival.
use Rattle.std.specs.Prelude.{ℕ, Bool, Option, List, [], ◌∷◌, ◌++◌}
use Rattle.std.specs.Option.{option_map_or}
use Rattle.cell_base.specs.declared.cells.Cell.{Cell}
use Rattle.cell_base.specs.declared.requests.JobId.{JobId}
use Rattle.cell_base.specs.declared.requests.Part.{Part}
use Rattle.cell_base.specs.Outcomes.{part_of, without}

-- what a contract sees of a table: the cell of which it was told, its parts in the order of their arrival at their present stages, and
-- how many more it takes
pub record Table : Type 0 where
  pub told : Option Cell
  pub parts : List Part
  pub spare : ℕ

-- the part of the job at another place, after all others
abbrev pub gone_on : List Part → JobId → ℕ → Bool → List Part
gone_on parts job place done =
    option_map_or (λ part. without parts job ++ (record part { place = place; done = done }) ∷ []) (part_of parts job) parts
