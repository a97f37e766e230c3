-- The sessions so far have ended.
use Rattle.solo_rounds.specs.Underway.{HaveEndedFrom}
use Rattle.solo_rounds.proofs.rounds.first_going.Given as goal

abbrev pub invariant-loop-k : goal.invariant-loop-k
invariant-loop-k l = HaveEndedFrom l.shift l.progress l.from l.k
