-- The lists have the stages so far.
use Rattle.upstream_sets.specs.Members.{HaveBits}
use Rattle.upstream_sets.proofs.neighborhoods.neighborhoods.Given as goal

abbrev pub invariant-loop-stage : goal.invariant-loop-stage
invariant-loop-stage l = HaveBits l.stage l.masks l.lists.items
