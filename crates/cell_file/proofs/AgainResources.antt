-- What is printed for resources is walked to the same resources.
use Rattle.std.proofs.Common.{◌≡◌, ℕ, Bool, true, false, ◌&&◌, not, List, [], ◌∷◌, map, length, Ok, refl, arith}
use Rattle.std.specs.List.{list_any}
use Rattle.std.specs.Str.{bytes_eq}
use Rattle.std.proofs.lemmas.Bool.{le-leb, le-ltb}
use Rattle.toml.specs.View.{items_of}
use Rattle.cell_base.specs.Fits.{CellFits, ResourceFits, units_of}
use Rattle.cell_base.specs.Named.{resource_names}
use Rattle.cell_base.specs.Names.{IsName}
use Rattle.cell_base.specs.declared.cells.Cell.{Cell}
use Rattle.cell_base.specs.declared.cells.Resource.{Resource}
use Rattle.cell_base.proofs.NameTests.{test_passes}
use Rattle.toml_walk.specs.Documents.{any_item, table_of, only, needed, string_at, string_of, number_within, number_of, number_at}
use Rattle.cell_file.specs.Names.{fresh_name}
use Rattle.cell_file.specs.Resources.{resource_of, resource_of_members, order_given, resources_of}
use Rattle.cell_file.specs.Resources.{next_resource, has_order, checked_resources}
use Rattle.cell_file.specs.Printing.{resource_members, resource_data}
use Rattle.cell_file.proofs.Split.{each_again, at_split, not_before}

resource_again : (i : ℕ) (earlier : List (List ℕ)) (r : Resource) → IsName r.name → ResourceFits r
    → list_any (bytes_eq r.name) earlier ≡ false → resource_of i earlier (resource_data r) ≡ Ok r
unfolding resource_of table_of only resource_of_members fresh_name string_at string_of needed
    number_at number_of number_within order_given resource_members
resource_again i earlier r named fits new =
    rw (
      test_passes r.name named,
      new,
      le-leb 1 r.capacity fits.0.0,
      le-leb r.capacity 1000 fits.0.1,
      le-leb 0 r.order (omega arith),
      le-leb r.order 65535 fits.1,
    )

pub resources_again : (cell : Cell) → CellFits cell → resources_of (items_of (map resource_data cell.resources)) ≡ Ok cell.resources
resources_again cell fits =
    let rs = cell.resources in
    each_again next_resource resource_data [] rs (λ front back r split.
    let named = at_split (λ x. IsName x.name) rs front back r split fits.named.resources in
    let fit = at_split ResourceFits rs front back r split fits.resources in
    let new = not_before (λ x. x.name) rs front back r split fits.resource_names in
    resource_again (length front) (resource_names front) r named fit new)

all_ordered : (rs : List Resource) → any_item (λ d. not (has_order d)) (items_of (map resource_data rs)) ≡ false
unfolding resource_members
all_ordered [] = refl
all_ordered (r ∷ rs) = all_ordered rs

and_false : (b : Bool) → (b && false) ≡ false
and_false true = refl
and_false false = refl

pub checked_again : (cell : Cell) → CellFits cell
    → checked_resources (items_of (map resource_data cell.resources)) ≡ Ok cell.resources
unfolding checked_resources
checked_again cell fits =
    let some = any_item has_order (items_of (map resource_data cell.resources)) in
    let units = le-ltb 4096 (units_of cell.resources) fits.units in
    rw (resources_again cell fits, all_ordered cell.resources, and_false some, units)
