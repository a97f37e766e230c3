-- How much the memberships of a cell weigh at most.
use Rattle.std.proofs.Common.{ℕ, zero, suc, ◌*◌, ◌≤◌, List, length, refl, not, arith}
use Rattle.std.proofs.Math.Nat.{div-le_self}
use Rattle.std.proofs.lemmas.Nat.{mul-le}
use Rattle.std.proofs.lemmas.List.Filters.{length-filter_both}
use Rattle.cell_base.specs.declared.cells.Cell.{Cell}
use Rattle.cell_base.specs.Stages.{stages, capacity_of}
use Rattle.cell_base.specs.Neighborhoods.{leads}
use Rattle.cell_base.specs.Fits.{CellFits}
use Rattle.policy_laws.proofs.Limits.{few_stages}
use Rattle.policy_laws.proofs.Totals.{total}
use Rattle.order_advisor.specs.declared.weighing.Weighing.{Weighing}
use Rattle.order_advisor.specs.declared.weighing.Weighing.TheVariants.{Alike, ByCapacity}
use Rattle.order_advisor.specs.Orders.{members_under, unit_weight, weight_under, with_orders, WeightBound}
use Rattle.order_advisor.proofs.Ties.{weight-total}

-- no more stages lead to a resource than the cell has
pub few_members : (cell : Cell) → CellFits cell → (orders : List ℕ) (r : ℕ) → members_under cell orders r ≤ 4096
few_members cell fits orders r =
    let other = with_orders cell orders in
    omega
    (arith, length-filter_both (λ s. leads other s r) (λ s. not (leads other s r)) (λ s. refl) (stages cell), few_stages cell fits)

-- one membership weighs at most 1,000
unit_small : (weighing : Weighing) (cell : Cell) (r : ℕ) → unit_weight weighing cell r ≤ 1000
unit_small Alike cell r = omega arith
unit_small ByCapacity cell r = div-le_self 1000 (capacity_of cell r)

-- and those of one resource together at most 4,096 times as much
pub light : (weighing : Weighing) (cell : Cell) → CellFits cell → (orders : List ℕ) (r : ℕ) → weight_under weighing cell orders r ≤ 4096000
light weighing cell fits orders r =
    mul-le (members_under cell orders r) (unit_weight weighing cell r) 4096 1000 (few_members cell fits orders r) (unit_small weighing cell r)

total_bound : (f : ℕ → ℕ) (most n : ℕ) → ((q : ℕ) → f q ≤ most) → total f n ≤ n * most
total_bound f most zero each = omega arith
total_bound f most (suc n) each = omega (arith, total_bound f most n each, each n)

pub weight_bound : (cell : Cell) → CellFits cell → WeightBound cell
weight_bound cell fits weighing orders =
    omega (
      arith,
      weight-total cell weighing orders,
      total_bound (weight_under weighing cell orders) 4096000 (length cell.resources) (light weighing cell fits orders),
    )
