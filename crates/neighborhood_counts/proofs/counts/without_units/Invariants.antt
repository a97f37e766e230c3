-- The bits of the resources so far.
use Rattle.neighborhood_counts.proofs.Full.{IsMarked}
use Rattle.neighborhood_counts.proofs.counts.without_units.Given as goal

abbrev pub invariant-loop-r : goal.invariant-loop-r
invariant-loop-r l = IsMarked l.capacities l.r l.full
