-- A walk over the parts, one after the other.
use Rattle.std.specs.Prelude.{◌≡◌, ℕ, ◌+◌, Option, None, Some, List, slice_get, ⊤}
use Rattle.cell_base.specs.declared.requests.JobId.{JobId}
use Rattle.cell_base.specs.declared.requests.Part.{Part}

-- the part before the one at an index is of this job, or none is told
abbrev pub IsBehind : List Part → ℕ → Option JobId → Type 0
IsBehind parts i None = ⊤
IsBehind parts i (Some job) = (k : ℕ) × (part : Part) × (i ≡ k + 1) × (slice_get parts k ≡ Some part) × (part.job ≡ job)
