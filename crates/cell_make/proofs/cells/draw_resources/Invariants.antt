-- The resources so far, and the number after their draws.
use Rattle.std.proofs.Common.{◌≡◌, ◌*◌}
use Rattle.cell_make.specs.Draws.{number_after}
use Rattle.cell_make.specs.Cells.{drawn_resources}
use Rattle.cell_make.proofs.cells.draw_resources.Given as goal

abbrev pub invariant-loop-r : goal.invariant-loop-r
invariant-loop-r l = record {
  so_far : l.resources ≡ drawn_resources l.initial.draws.number l.r;
  after : l.draws.number ≡ number_after l.initial.draws.number (2 * l.r);
}
