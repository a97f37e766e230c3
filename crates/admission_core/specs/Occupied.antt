-- The ranks of the resources, with a mask of those on which parts may stand.
use Rattle.std.specs.Prelude.{◌≡◌, ◌≢◌, ℕ, ◌<◌, ◌≤◌, ◌==◌, ◌^◌, true, false, List, length, slice_index, slice_index_or}
use Rattle.std.specs.List.{All}
use Rattle.cell_base.specs.declared.cells.Cell.{Cell}
use Rattle.cell_base.specs.declared.cells.ResId.{ResId}
use Rattle.cell_base.specs.declared.requests.Part.{Part}
use Rattle.cell_base.specs.Masks.{has_bit}
use Rattle.cell_base.specs.Plans.{resource_of_part}
use Rattle.admission_core.specs.Ranks.{IsRanking}

-- what a contract sees: the resources by their ranks, the mask of the ranks that may be occupied, and the number of resources
pub record Marked : Type 0 where
  pub ranks : List ResId
  pub mask : ℕ
  pub resources : ℕ

-- every bit of the mask is that of a rank
abbrev pub IsOfRanks : List ResId → ℕ → Type 0
IsOfRanks ranks mask = (k : ℕ) → has_bit mask k ≡ true → k < length ranks

-- the mask has the bits of the ranks of a resource, and no others
pub record AreBitsOf (ranks : List ResId) (r mask : ℕ) : Type 0 where
  pub small : mask < 2 ^ 64
  pub within : IsOfRanks ranks mask
  pub each : (k : ℕ) (d : ResId) → k < length ranks → has_bit mask k ≡ ((slice_index_or ranks k d).0 == r)

-- the bits of each resource, and a mask of ranks
pub record HasBits (ranks : List ResId) (bits : List ℕ) (mask : ℕ) : Type 0 where
  pub few : length ranks ≤ 64
  pub each : (r : ℕ) → r < length bits → AreBitsOf ranks r (slice_index bits r)
  pub within : IsOfRanks ranks mask

-- no part stands on the resource
abbrev pub IsFree : Cell → List Part → ℕ → Type 0
IsFree cell parts r = All (λ part. resource_of_part cell part ≢ r) parts

-- the resource of a rank whose bit is not set is free
abbrev pub AreShown : Cell → List Part → Marked → Type 0
AreShown cell parts marked =
    (k : ℕ) (d : ResId) → k < length marked.ranks → has_bit marked.mask k ≡ false → IsFree cell parts (slice_index_or marked.ranks k d).0

-- the ranks are those of the cell, and each resource on which a part stands is marked
pub record IsMarked (cell : Cell) (parts : List Part) (marked : Marked) : Type 0 where
  pub ranking : IsRanking cell marked.ranks
  pub complete : marked.resources ≡ length cell.resources
  pub shown : AreShown cell parts marked
