-- The values so far are those of the steps so far.
use Rattle.std.proofs.Common.{◌≡◌, map, take}
use Rattle.toml.specs.View.{view}
use Rattle.cell_base.specs.Named.{resource_names}
use Rattle.cell_file.specs.Printing.{step_data}
use Rattle.cell_file.proofs.values.route_value.Given as goal

abbrev pub invariant-loop-step : goal.invariant-loop-step
invariant-loop-step l = map view l.values.items ≡ map (step_data (resource_names l.resources)) (take l.step-index l.route)
