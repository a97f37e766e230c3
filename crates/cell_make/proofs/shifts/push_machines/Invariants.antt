-- The scripts of the machines so far.
use Rattle.std.proofs.Common.{◌≡◌, ◌++◌}
use Rattle.cell_make.specs.Shifts.{machine_scripts}
use Rattle.cell_make.proofs.shifts.push_machines.Given as goal

abbrev pub invariant-loop-machine : goal.invariant-loop-machine
invariant-loop-machine l = l.scripts ≡ l.initial.scripts ++ machine_scripts l.cell l.kinds l.machine
