-- The row knows the places from the present one on.
use Rattle.std.proofs.Common.{◌≡◌, length}
use Rattle.cell_base.specs.declared.limits.TheConstants.{MAX_PLACES}
use Rattle.plain_recount.specs.Leading.{KnowsAfter}
use Rattle.plain_recount.proofs.sweep.sweep.Given as goal

abbrev pub invariant-loop-place : goal.invariant-loop-place
invariant-loop-place l = (length l.row ≡ MAX_PLACES) × KnowsAfter l.cell l.kind.0 l.place l.row
