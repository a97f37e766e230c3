-- The work of the jobs so far, of which each has at most as much as a route has places.
use Rattle.std.proofs.Common.{◌≡◌, ◌*◌, ◌≤◌, sum_by, take}
use Rattle.cell_make.specs.Shifts.{work_of_type}
use Rattle.cell_make.proofs.shifts.work_of_jobs.Given as goal

abbrev pub invariant-loop-kind : goal.invariant-loop-kind
invariant-loop-kind l = record {
  so_far : l.work ≡ sum_by (work_of_type l.cell l.machine.0) (take l.kind-index l.kinds);
  few : l.work ≤ 64 * l.kind-index;
}
