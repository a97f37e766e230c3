-- The greatest number of elements that an array has.
use Rattle.std.specs.Prelude.{ℕ, ◌+◌, max}
use Rattle.toml.specs.Data.{Data, array, table, Items, no_items, item, Members, no_members, member}

-- how many elements an array has
abbrev pub item_count : Items → ℕ
item_count no_items = 0
item_count (item d ds) = item_count ds + 1

-- the most that an array in some data has, however deep
abbrev mutual
  pub width : Data → ℕ
  width (array ds) = max (item_count ds) (items_width ds)
  width (table ms) = members_width ms
  width _ = 0

  pub items_width : Items → ℕ
  items_width no_items = 0
  items_width (item d ds) = max (width d) (items_width ds)

  pub members_width : Members → ℕ
  members_width no_members = 0
  members_width (member k d ms) = max (width d) (members_width ms)
