-- The values so far are those of the resources so far.
use Rattle.std.proofs.Common.{◌≡◌, map, take}
use Rattle.toml.specs.View.{view}
use Rattle.cell_file.specs.Printing.{resource_data}
use Rattle.cell_file.proofs.values.resources_value.Given as goal

abbrev pub invariant-loop-resource : goal.invariant-loop-resource
invariant-loop-resource l = map view l.values.items ≡ map resource_data (take l.resource-index l.resources)
