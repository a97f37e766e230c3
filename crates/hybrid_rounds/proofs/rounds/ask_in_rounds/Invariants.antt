-- The rounds are under way, with fewer asks left after each.
use Rattle.std.proofs.Common.{◌≡◌, ℕ}
use Rattle.solo_rounds.specs.Underway.{IsReady, asks_left}
use Rattle.hybrid_rounds.specs.Underway.{IsUnderway}
use Rattle.hybrid_rounds.proofs.rounds.ask_in_rounds.Given as goal

abbrev pub invariant-rounds : goal.invariant-rounds
invariant-rounds l =
    (l.hybrid.cell ≡ l.fn.hybrid.cell)
    × IsReady l.shift l.progress l.history.spare
    × ((turn : ℕ) × IsUnderway l.shift l.fn.hybrid.cell l.fn.hybrid.parts l.hybrid.parts l.history.items l.progress turn 0)

abbrev pub decreases-rounds : goal.decreases-rounds
decreases-rounds l = asks_left l.shift.patience l.shift.scripts l.progress
