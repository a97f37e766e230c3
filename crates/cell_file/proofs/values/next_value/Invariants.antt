-- The values so far are those of the lists so far.
use Rattle.std.proofs.Common.{◌≡◌, map, take}
use Rattle.toml.specs.View.{view}
use Rattle.cell_file.specs.Printing.{number_data, array_data}
use Rattle.cell_file.proofs.values.next_value.Given as goal

abbrev pub invariant-loop-numbers : goal.invariant-loop-numbers
invariant-loop-numbers l = map view l.values.items ≡ map (array_data number_data) (take l.numbers-index l.next)
