-- Sets of resources as masks, and the least cost of putting the resources of a set first.
--
-- What a resource adds to the weight depends on the set of resources before it alone. So the least weight is found set by set:
-- of each set some resource is the last, and the others are a set with one resource less.
use Rattle.std.specs.Prelude.{◌≡◌, ℕ, ◌+◌, ◌-◌, ◌*◌, ◌/◌, ◌%◌, ◌^◌, ◌<◌, ◌≤◌, true, Bool, ◌&&◌, if◌then◌else◌, List}
use Rattle.std.specs.Prelude.{length, map, slice_index}
use Rattle.std.specs.List.{filter, range_with_len}
use Rattle.cell_base.specs.declared.cells.Cell.{Cell}
use Rattle.cell_base.specs.Masks.{has_bit}
use Rattle.cell_base.specs.Stages.{Stage, resource_numbers}
use Rattle.cell_base.specs.Numbers.{IsNumber, stage_numbered}
use Rattle.cell_base.specs.Neighborhoods.{leads}
use Rattle.order_advisor.specs.declared.weighing.Weighing.{Weighing}
use Rattle.order_advisor.specs.Orders.{with_orders, members_under, unit_weight}

-- the orders under which the resources of a set come first, all of one order
abbrev pub first_orders : Cell → ℕ → List ℕ
first_orders cell set = map (λ q. if has_bit set q then 0 else 1) (resource_numbers cell)

-- the cell with those
abbrev pub first_cell : Cell → ℕ → Cell
first_cell cell set = with_orders cell (first_orders cell set)

-- how many stages lead to a resource of the set on resources of the set alone
abbrev pub added : Cell → ℕ → ℕ → ℕ
added cell r set = members_under cell (first_orders cell set) r

-- and what they weigh
abbrev pub added_weight : Weighing → Cell → ℕ → ℕ → ℕ
added_weight weighing cell r set = added cell r set * unit_weight weighing cell r

-- the stage leads to a resource of the set on resources of the set alone
abbrev pub leads_inside : Cell → ℕ → Stage → ℕ → Bool
leads_inside cell set s r = has_bit set r && leads (first_cell cell set) s r

-- a mask with a bit for each such resource
abbrev pub IsInsideMask : Cell → ℕ → Stage → ℕ → Type 0
IsInsideMask cell set s mask = (r : ℕ) → has_bit mask r ≡ leads_inside cell set s r

-- such masks of the stages from a number on
abbrev pub KnowsInside : Cell → ℕ → ℕ → List ℕ → Type 0
KnowsInside cell set from masks = (n : ℕ) → from ≤ n → IsNumber cell n → IsInsideMask cell set (stage_numbered cell n) (slice_index masks n)

-- how many of the first n resources a set has
abbrev pub members_of : ℕ → ℕ → ℕ
members_of n set = length (filter (has_bit set) (range_with_len 0 n))

-- a power of 16
abbrev pub power_of_16 : ℕ → ℕ
power_of_16 digits = 2 ^ (4 * digits)

-- what resource r of n costs as number `place` from 0, where the stages that lead to it weigh so much. The cost of all is a number whose last n
-- digits to base 16 are the places of the resources, before them the weight: the least one has the least weight, and of the lists
-- with that weight the first
abbrev pub cost : ℕ → ℕ → ℕ → ℕ → ℕ
cost n r weight place = weight * power_of_16 n + place * power_of_16 (n - 1 - r)

-- more than any resource costs
abbrev pub most_cost : ℕ → ℕ
most_cost n = 8388608 * power_of_16 n

-- the order of resource r of n in a cost of all
abbrev pub order_in : ℕ → ℕ → ℕ → ℕ
order_in n all r = all / power_of_16 (n - 1 - r) % 16 + 1

-- what resource r adds as the last one of a set
abbrev pub last_cost : Weighing → Cell → ℕ → ℕ → ℕ → ℕ
last_cost weighing cell n set r = cost n r (added_weight weighing cell r set) (members_of n (set - 2 ^ r))

-- of the sets below a bound: the empty one costs nothing, and every other one what its cheapest last resource adds to the others
pub record KnowsLeast (weighing : Weighing) (cell : Cell) (n below : ℕ) (costs : List ℕ) : Type 0 where
  pub empty : slice_index costs 0 ≡ 0
  pub least : (set r : ℕ) → set < below → r < n → has_bit set r ≡ true
      → slice_index costs set ≤ slice_index costs (set - 2 ^ r) + last_cost weighing cell n set r
  pub some_last : (set : ℕ) → 0 < set → set < below
      → (r : ℕ) × (r < n) × (has_bit set r ≡ true) × (slice_index costs set ≡ slice_index costs (set - 2 ^ r) + last_cost weighing cell n set r)
  pub small : (set : ℕ) → set < below → slice_index costs set ≤ set * most_cost n
