-- The resources so far have their masks.
use Rattle.std.proofs.Common.{◌≡◌, length}
use Rattle.cell_base.specs.declared.limits.TheConstants.{MAX_RESOURCES}
use Rattle.upstream_sets.specs.Sweeps.{AreFloors}
use Rattle.upstream_sets.proofs.sweep.floors.Given as goal

abbrev pub invariant-loop-r : goal.invariant-loop-r
invariant-loop-r l = (length l.floors ≡ MAX_RESOURCES) × AreFloors l.table l.r l.floors
