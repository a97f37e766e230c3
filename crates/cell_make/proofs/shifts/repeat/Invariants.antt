-- The request as often as so far.
use Rattle.std.proofs.Common.{◌≡◌, ◌++◌, replicate}
use Rattle.cell_make.proofs.shifts.repeat.Given as goal

abbrev pub invariant-loop : goal.invariant-loop
invariant-loop l = l.script ≡ l.initial.script ++ replicate l.counter l.request
