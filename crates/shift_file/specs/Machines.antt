-- A session of a machine: so many times it asks to process.
use Rattle.std.specs.Prelude.{codes, ℕ, [], ◌∷◌, Result, Ok}
use Rattle.cell_base.specs.Faults.{◌>>=◌}
use Rattle.cell_base.specs.Named.{resource_names}
use Rattle.cell_base.specs.declared.cells.Cell.{Cell}
use Rattle.cell_base.specs.declared.limits.TheConstants.{MAX_STEPS}
use Rattle.cell_base.specs.declared.places.Field.TheVariants.{Whole, Machine, Turns}
use Rattle.toml.specs.Data.{Members}
use Rattle.toml_walk.specs.Documents.{only, number_at}
use Rattle.shift_file.specs.declared.faults.ShiftFault.{ShiftFault}
use Rattle.shift_file.specs.declared.sessions.Session.{Session}
use Rattle.shift_file.specs.declared.sessions.Session.TheVariants.{OfMachine}
use Rattle.shift_file.specs.Faults.{looked, of_session}
use Rattle.shift_file.specs.Names.{named_at}

-- session k of a machine
unfoldable pub machine_session : Cell → ℕ → Members → Result Session ShiftFault
machine_session cell k ms = do
  table ← looked (only (of_session k Whole) (codes "machine" ∷ codes "turns" ∷ []) ms)
  machine ← named_at (of_session k Machine) (resource_names cell.resources) (codes "machine") table
  turns ← looked (number_at (of_session k Turns) 1 MAX_STEPS (codes "turns") table)
  Ok (OfMachine (record { 0 = machine }) turns)
