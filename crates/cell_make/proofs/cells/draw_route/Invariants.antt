-- The places so far, and the number after their draws.
use Rattle.std.proofs.Common.{◌≡◌, ◌+◌, ◌*◌}
use Rattle.cell_make.specs.Draws.{number_after}
use Rattle.cell_make.specs.Cells.{drawn_steps}
use Rattle.cell_make.proofs.cells.draw_route.Given as goal

abbrev pub invariant-loop : goal.invariant-loop
invariant-loop l = record {
  so_far : l.route ≡ drawn_steps l.fn.draws.number l.counter;
  after : l.draws.number ≡ number_after l.fn.draws.number (1 + 2 * l.counter);
}
