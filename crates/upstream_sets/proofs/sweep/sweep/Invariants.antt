-- The stages from the present one on have their masks.
use Rattle.std.proofs.Common.{◌≡◌, length}
use Rattle.cell_base.specs.Stages.{stages}
use Rattle.upstream_sets.specs.Sweeps.{KnowsMasks}
use Rattle.upstream_sets.proofs.sweep.sweep.Given as goal

abbrev pub invariant-loop-stage : goal.invariant-loop-stage
invariant-loop-stage l = (length l.masks.items ≡ length (stages l.table)) × KnowsMasks l.table l.stage l.masks.items
