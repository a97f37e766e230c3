-- The passes after those that are left have come together.
use Rattle.std.proofs.Common.{◌≡◌, ◌+◌, ◌++◌, List, [], length}
use Rattle.cell_lock.specs.Passes.{PassState}
use Rattle.cell_lock.specs.Steps.{gathering}
use Rattle.cell_lock.proofs.setting.gather.Given as goal

abbrev pub invariant-loop-pass : goal.invariant-loop-pass
invariant-loop-pass g l =
    (l.host.table_id ≡ l.initial.host.table_id)
    × ((done : List (PassState g.row.D.Denot)) × (l.passes ++ done ≡ l.initial.passes)
    × (l.host.me ≡ (gathering l.initial.host.me.0.opening (length l.passes + 1) done, [])))

abbrev pub decreases-loop-pass : goal.decreases-loop-pass
decreases-loop-pass g l = length l.passes
