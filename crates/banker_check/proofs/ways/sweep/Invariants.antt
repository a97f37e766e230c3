-- The stages from the present one on have their ways.
use Rattle.std.proofs.Common.{◌≡◌, length}
use Rattle.cell_base.specs.Stages.{stages}
use Rattle.banker_check.specs.WayMasks.{KnowsWays}
use Rattle.banker_check.proofs.ways.sweep.Given as goal

abbrev pub invariant-loop-stage : goal.invariant-loop-stage
invariant-loop-stage l = (length l.ways.items ≡ length (stages l.table)) × KnowsWays l.table l.stage l.ways.items
