-- No part stands on the resources whose bits are not left.
use Rattle.admission_core.proofs.Lowest.{IsLeft}
use Rattle.admission_core.proofs.planning.next_part.Given as goal

abbrev pub invariant-loop-left : goal.invariant-loop-left
invariant-loop-left l = IsLeft l.table l.tally.parts.parts l.occupied l.left

abbrev pub decreases-loop-left : goal.decreases-loop-left
decreases-loop-left l = l.left
