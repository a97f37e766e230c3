-- Counts with their capacities, and masks of resources over them.
use Rattle.std.specs.Prelude.{◌≡◌, ℕ, ◌<◌, ◌≤◌, ◌&&◌, Bool, true, nat_le, List, length, slice_index, Option}
use Rattle.std.specs.List.{find, range_with_len}
use Rattle.cell_base.specs.Masks.{has_bit}

-- what a contract sees of the counts: one number for each resource, and the units of the resource
pub record Counted : Type 0 where
  pub counts : List ℕ
  pub capacities : List ℕ

-- the resource holds as many parts as it has units
abbrev pub is_full : Counted → ℕ → Bool
is_full held r = nat_le (slice_index held.capacities r) (slice_index held.counts r)

-- the lowest resource of a mask that is full
abbrev pub first_full : Counted → ℕ → Option ℕ
first_full held mask = find (λ r. has_bit mask r && is_full held r) (range_with_len 0 (length held.counts))

-- every bit of the mask is that of a resource
abbrev pub IsMaskOf : Counted → ℕ → Type 0
IsMaskOf held mask = (r : ℕ) → has_bit mask r ≡ true → r < length held.counts

-- the neighborhood of each resource of the mask holds a part
abbrev pub AreHeld : Counted → ℕ → Type 0
AreHeld held mask = (r : ℕ) → has_bit mask r ≡ true → 0 < slice_index held.counts r

-- as many counts as capacities, at most 64, and none above its capacity
pub record IsCounted (held : Counted) : Type 0 where
  pub complete : length held.counts ≡ length held.capacities
  pub few : length held.counts ≤ 64
  pub within : (r : ℕ) → r < length held.counts → slice_index held.counts r ≤ slice_index held.capacities r

-- the bits of the mask are those of the resources that are full
abbrev pub IsFullMask : Counted → ℕ → Type 0
IsFullMask held mask = (r : ℕ) → r < length held.counts → has_bit mask r ≡ is_full held r
