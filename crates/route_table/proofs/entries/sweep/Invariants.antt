-- The row knows the places from the present one on.
use Rattle.std.proofs.Common.{◌≡◌, length}
use Rattle.cell_base.specs.declared.limits.TheConstants.{MAX_PLACES}
use Rattle.route_table.specs.Entries.{KnowsWork}
use Rattle.route_table.proofs.entries.sweep.Given as goal

abbrev pub invariant-loop-place : goal.invariant-loop-place
invariant-loop-place l = (length l.row ≡ MAX_PLACES) × KnowsWork l.cell l.kind.0 l.place l.row
