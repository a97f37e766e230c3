-- The stages of a neighborhood by their numbers.
use Rattle.std.specs.Prelude.{◌≡◌, ℕ, ◌<◌, List, [], ◌∷◌, ◌++◌, length, map, get_or, slice_index, if◌then◌else◌}
use Rattle.std.specs.List.{filter, range_with_len}
use Rattle.cell_base.specs.declared.cells.Cell.{Cell}
use Rattle.cell_base.specs.declared.limits.TheConstants.{MAX_RESOURCES}
use Rattle.cell_base.specs.Masks.{has_bit}
use Rattle.cell_base.specs.Stages.{Stage}
use Rattle.cell_base.specs.Numbers.{number_of}
use Rattle.cell_base.specs.Neighborhoods.{masks_of, neighborhood}
use Rattle.cell_base.specs.Fits.{CellFits}
use Rattle.route_table.specs.declared.stage_table.StageNo.{StageNo}

-- the number of a stage
abbrev pub stage_no : Cell → Stage → StageNo
stage_no cell s = record { 0 = number_of cell s }

-- where these are the masks of a cell that fits, the list is the neighborhood of resource r
abbrev pub AreMembersOf : List ℕ → ℕ → List StageNo → Type 0
AreMembersOf masks r list = (cell : Cell) → CellFits cell → masks ≡ masks_of cell → list ≡ map (stage_no cell) (neighborhood cell r)

-- the numbers of the first n masks that have bit r
abbrev pub with_bit_before : ℕ → List ℕ → ℕ → List StageNo
with_bit_before n masks r = map (λ k. record { 0 = k }) (filter (λ k. has_bit (slice_index masks k) r) (range_with_len 0 n))

-- the numbers of all of them
abbrev pub with_bit : List ℕ → ℕ → List StageNo
with_bit masks r = with_bit_before (length masks) masks r

-- a stage is put at the end of the lists of the resources of a mask, and the other lists stay
pub record IsAdded (mask : ℕ) (stage : StageNo) (before after : List (List StageNo)) : Type 0 where
  pub complete : length after ≡ length before
  pub each : (r : ℕ) → get_or after r [] ≡ get_or before r [] ++ (if has_bit mask r then stage ∷ [] else [])

-- for each resource that a cell may have the numbers of the first n masks that have its bit
pub record HaveBits (n : ℕ) (masks : List ℕ) (lists : List (List StageNo)) : Type 0 where
  pub complete : length lists ≡ MAX_RESOURCES
  pub each : (r : ℕ) → r < MAX_RESOURCES → get_or lists r [] ≡ with_bit_before n masks r

-- where these are the masks of a cell that fits, there is a list for each resource that a cell may have: its neighborhood
pub record AreNeighborhoodsOf (masks : List ℕ) (lists : List (List StageNo)) : Type 0 where
  pub complete : length lists ≡ MAX_RESOURCES
  pub each : (r : ℕ) → r < MAX_RESOURCES → AreMembersOf masks r (get_or lists r [])
