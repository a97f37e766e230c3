-- How many lines show a cell.
use Rattle.std.proofs.Common.{◌≡◌, ℕ, ◌+◌, ◌*◌, List, [], ◌∷◌, length, ap, refl, ◌∙◌, arith}
use Rattle.std.specs.List.{range_with_len, sum_by}
use Rattle.std.proofs.lemmas.List.{length-map}
use Rattle.std.proofs.lemmas.List.Concat.{length-flat_map}
use Rattle.std.proofs.lemmas.List.FromFn.{length-range_with_len}
use Rattle.std.proofs.lemmas.List.Sums.{sum_by-cons}
use Rattle.cell_base.specs.declared.cells.Cell.{Cell}
use Rattle.cell_base.specs.Neighborhoods.{neighborhood}
use Rattle.cell_base.specs.Stages.{resource_numbers}
use Rattle.order_advisor.specs.declared.weighing.Weighing.TheVariants.{Alike}
use Rattle.order_advisor.specs.Orders.{members_under, weight, with_orders}
use Rattle.order_advisor.proofs.Ties.{length-reordered}
use Rattle.refusal_reason.specs.Shown.{resource_lines, stage_line}
use Rattle.order_commands.specs.Shown.{ShowsMembers, ShowsWeight}

-- of each resource one line, and one for each stage of its neighborhood
pub members_shown : (cell : Cell) → ShowsMembers cell
members_shown cell orders r =
    let other = with_orders cell orders in
    omega (arith, length-map (neighborhood other r) (stage_line other))

sum_of_lines : (cell : Cell) (orders rs : List ℕ)
    → sum_by (λ r. length (resource_lines (with_orders cell orders) r)) rs ≡ length rs + sum_by (λ r. members_under cell orders r * 1) rs
sum_of_lines cell orders [] = refl
sum_of_lines cell orders (r ∷ rs) =
    omega (
      arith,
      members_shown cell orders r,
      sum_by-cons (λ q. length (resource_lines (with_orders cell orders) q)) r rs,
      sum_by-cons (λ q. members_under cell orders q * 1) r rs,
      sum_of_lines cell orders rs,
    )

pub lines_shown : (cell : Cell) → ShowsWeight cell
lines_shown cell orders =
    let other = with_orders cell orders in
    let numbers : resource_numbers other ≡ resource_numbers cell = ap (range_with_len 0) (length-reordered cell.resources orders) in
    length-flat_map (resource_lines other) (resource_numbers other)
    ∙ ap (λ (rs : List ℕ). sum_by (λ r. length (resource_lines other r)) rs) numbers
    ∙ sum_of_lines cell orders (resource_numbers cell)
    ∙ ap (λ (n : ℕ). n + weight Alike cell orders) (length-range_with_len 0 (length cell.resources))
