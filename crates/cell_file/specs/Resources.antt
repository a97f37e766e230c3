-- A resource of a cell file: its capacity, and an order where all resources have one.
use Rattle.std.specs.Prelude.{codes, ℕ, Bool, ◌&&◌, not, nat_lt, if◌then◌else◌, List, [], ◌∷◌, length}
use Rattle.std.specs.Prelude.{Option, Some, None, is_some, option_and_then, unwrap_or, Result, Ok, Err}
use Rattle.cell_base.specs.Faults.{◌>>=◌}
use Rattle.cell_base.specs.Fits.{units_of}
pub use Rattle.cell_base.specs.Named.{resource_names}
use Rattle.cell_base.specs.declared.cells.Resource.{Resource}
use Rattle.cell_base.specs.declared.limits.TheConstants.{MAX_CAPACITY, MAX_ORDER, MAX_UNITS}
use Rattle.cell_base.specs.declared.places.Place.{Place}
use Rattle.cell_base.specs.declared.places.Field.TheVariants.{Whole, Name, Capacity, Order}
use Rattle.toml.specs.Data.{Data, Items, Members, get_member, as_table}
use Rattle.toml_walk.specs.Documents.{any_item, each, table_of, only, number_of, number_at}
use Rattle.cell_file.specs.declared.faults.CellFault.{CellFault}
use Rattle.cell_file.specs.declared.faults.CellFault.TheVariants.{MixedOrders, TooManyUnits}
use Rattle.cell_file.specs.Faults.{looked, of_resource}
use Rattle.cell_file.specs.Names.{fresh_name}

-- the order that a resource has, where it has one
unfoldable pub order_given : Place → Option Data → Result (Option ℕ) CellFault
order_given place None = Ok None
order_given place (Some d) = looked (number_of place 0 MAX_ORDER d) >>= λ order. Ok (Some order)

-- the members of resource i, after resources of these names
unfoldable pub resource_of_members : ℕ → List (List ℕ) → Members → Result Resource CellFault
resource_of_members i earlier ms = do
  name ← fresh_name (of_resource i Name) earlier ms
  capacity ← looked (number_at (of_resource i Capacity) 1 MAX_CAPACITY (codes "capacity") ms)
  order ← order_given (of_resource i Order) (get_member (codes "order") ms)
  Ok (record { name = name; capacity = capacity; order = unwrap_or order capacity })

-- the keys of a resource
abbrev pub resource_keys : List (List ℕ)
resource_keys = codes "name" ∷ codes "capacity" ∷ codes "order" ∷ []

-- resource i, as an element gives it
unfoldable pub resource_of : ℕ → List (List ℕ) → Data → Result Resource CellFault
resource_of i earlier d = do
  ms ← looked (table_of (of_resource i Whole) d)
  table ← looked (only (of_resource i Whole) resource_keys ms)
  resource_of_members i earlier table

-- the resource after these
abbrev pub next_resource : List Resource → Data → Result Resource CellFault
next_resource earlier d = resource_of (length earlier) (resource_names earlier) d

-- each element in turn gives a resource
abbrev pub resources_of : Items → Result (List Resource) CellFault
resources_of ds = each next_resource [] ds

-- the element gives an order
abbrev pub has_order : Data → Bool
has_order d = is_some (option_and_then (get_member (codes "order")) (as_table d))

-- some elements give an order, and some do not
abbrev pub orders_are_mixed : Items → Bool
orders_are_mixed ds = any_item has_order ds && any_item (λ d. not (has_order d)) ds

-- the resources, with orders in all of them or in none, and not too many units
unfoldable pub checked_resources : Items → Result (List Resource) CellFault
checked_resources ds = do
  resources ← resources_of ds
  if orders_are_mixed ds then Err MixedOrders
      else if nat_lt MAX_UNITS (units_of resources) then Err (TooManyUnits (units_of resources))
      else Ok resources
