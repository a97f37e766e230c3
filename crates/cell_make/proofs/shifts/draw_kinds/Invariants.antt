-- The types of the jobs so far, and the number after their draws.
use Rattle.std.proofs.Common.{◌≡◌}
use Rattle.cell_make.specs.Draws.{number_after}
use Rattle.cell_make.specs.Shifts.{drawn_kinds}
use Rattle.cell_make.proofs.shifts.draw_kinds.Given as goal

abbrev pub invariant-loop : goal.invariant-loop
invariant-loop l = record {
  so_far : l.kinds ≡ drawn_kinds l.initial.draws.number l.counter;
  after : l.draws.number ≡ number_after l.initial.draws.number l.counter;
}
