-- Names that the cell has.
use Rattle.std.specs.Prelude.{ℕ, List, position, Result}
use Rattle.std.specs.Str.{bytes_eq}
use Rattle.cell_base.specs.Faults.{◌>>=◌, or_fault}
use Rattle.cell_base.specs.declared.places.Place.{Place}
use Rattle.toml.specs.Data.{Members}
use Rattle.toml_walk.specs.Documents.{string_at}
use Rattle.shift_file.specs.declared.faults.ShiftFault.{ShiftFault}
use Rattle.shift_file.specs.declared.faults.ShiftFault.TheVariants.{UnknownName}
use Rattle.shift_file.specs.Faults.{looked}

-- the number, among these names, of the name at a key
unfoldable pub named_at : Place → List (List ℕ) → List ℕ → Members → Result ℕ ShiftFault
named_at place names key ms = do
  name ← looked (string_at place key ms)
  or_fault (position (bytes_eq name) names) (UnknownName place)
