-- The scripts of the jobs so far.
use Rattle.std.proofs.Common.{◌≡◌, ◌++◌}
use Rattle.cell_make.specs.Shifts.{job_scripts}
use Rattle.cell_make.proofs.shifts.push_jobs.Given as goal

abbrev pub invariant-loop-job : goal.invariant-loop-job
invariant-loop-job l = l.scripts ≡ l.initial.scripts ++ job_scripts l.cell l.kinds l.job
