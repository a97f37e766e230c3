-- The jobs that a refusal stands on.
use Rattle.std.specs.Prelude.{ℕ, List, [], map, ⊤}
use Rattle.cell_base.specs.declared.cells.Cell.{Cell}
use Rattle.cell_base.specs.declared.requests.JobId.{JobId}
use Rattle.cell_base.specs.declared.requests.Part.{Part}
use Rattle.cell_base.specs.declared.requests.Refusal.{Refusal}
use Rattle.cell_base.specs.declared.requests.Refusal.TheVariants.{Saturated}
use Rattle.cell_base.specs.Neighborhoods.{counted}
use Rattle.policy_laws.specs.Laws.{IsFull}

-- a saturation that holds in this state: its numbers are the present count and the capacity of a resource whose neighborhood is full
abbrev pub IsPresent : Cell → List Part → Refusal → Type 0
IsPresent cell parts (Saturated at held units) = IsFull cell parts at held units
IsPresent cell parts why = ⊤

-- the jobs of parts
abbrev pub jobs_of : List Part → List JobId
jobs_of parts = map (λ part. part.job) parts

-- the jobs that are counted where a neighborhood is full, in the order of the state; none for another reason
abbrev pub reason : Cell → List Part → Refusal → List JobId
reason cell parts (Saturated at held units) = jobs_of (counted cell parts at.0)
reason cell parts why = []

-- how many these are: as many as the resource has units
abbrev pub units_named : Refusal → ℕ
units_named (Saturated at held units) = units
units_named why = 0
