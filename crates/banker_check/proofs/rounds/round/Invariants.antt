-- The numbers are those of the parts so far that count.
use Rattle.std.proofs.Common.{not, ◌&&◌, filter, take}
use Rattle.cell_base.specs.Policy.{is_of_job}
use Rattle.banker_check.specs.Counts.{AreUnitsHeld, counts_on}
use Rattle.banker_check.proofs.rounds.round.Given as goal

abbrev pub invariant-loop-part : goal.invariant-loop-part
invariant-loop-part l =
    AreUnitsHeld l.table (filter (λ part. not (is_of_job l.last.job part) && counts_on l.table l.before l.first part)
    (take l.part-index l.parts)) l.held
