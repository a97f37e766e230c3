-- What `show` prints of a cell with other orders.
use Rattle.std.specs.Prelude.{◌≡◌, ℕ, ◌+◌, List, length}
use Rattle.cell_base.specs.declared.cells.Cell.{Cell}
use Rattle.order_advisor.specs.Orders.{members_under, weight, with_orders}
use Rattle.order_advisor.specs.declared.weighing.Weighing.TheVariants.{Alike}
use Rattle.refusal_reason.specs.Shown.{resource_lines, show_lines}

-- of each resource one line, and beside it as many for stages as there are memberships in its neighborhood: those that are weighed
abbrev pub ShowsMembers : Cell → Type 0
ShowsMembers cell = (orders : List ℕ) (r : ℕ) → length (resource_lines (with_orders cell orders) r) ≡ 1 + members_under cell orders r

-- so of all resources as many for stages as the orders weigh where each membership weighs 1
abbrev pub ShowsWeight : Cell → Type 0
ShowsWeight cell = (orders : List ℕ) → length (show_lines (with_orders cell orders)) ≡ length cell.resources + weight Alike cell orders
