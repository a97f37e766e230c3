-- The values so far are those of the numbers so far.
use Rattle.std.proofs.Common.{◌≡◌, map, take}
use Rattle.toml.specs.View.{view}
use Rattle.cell_file.specs.Printing.{number_data}
use Rattle.cell_file.proofs.values.numbers_value.Given as goal

abbrev pub invariant-loop-n : goal.invariant-loop-n
invariant-loop-n l = map view l.values.items ≡ map number_data (take l.n-index l.numbers)
