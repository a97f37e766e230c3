-- The types so far, and the number after their draws.
use Rattle.std.proofs.Common.{◌≡◌}
use Rattle.cell_make.specs.Cells.{drawn_types, number_after_types}
use Rattle.cell_make.proofs.cells.draw_types.Given as goal

abbrev pub invariant-loop-t : goal.invariant-loop-t
invariant-loop-t l = record {
  so_far : l.types ≡ drawn_types l.initial.draws.number l.t;
  after : l.draws.number ≡ number_after_types l.initial.draws.number l.t;
}
