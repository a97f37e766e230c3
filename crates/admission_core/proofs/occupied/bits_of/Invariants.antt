-- The bits of the ranks so far.
use Rattle.admission_core.proofs.Marking.{AreSoFar}
use Rattle.admission_core.proofs.occupied.bits_of.Given as goal

abbrev pub invariant-loop-k : goal.invariant-loop-k
invariant-loop-k l = AreSoFar l.ranks l.r.0 l.k l.bits
