-- The copies are of the elements so far.
use Rattle.std.proofs.Common.{◌≡◌, take}
use Rattle.cell_base.proofs.copies.types.Given as goal

abbrev pub invariant-loop-job_type : goal.invariant-loop-job_type
invariant-loop-job_type l = l.copies ≡ take l.job_type-index l.types
