-- The bits of the resources so far.
use Rattle.std.proofs.Common.{◌≡◌, ℕ, ◌<◌, length, get_or}
use Rattle.admission_core.specs.Occupied.{AreBitsOf}
use Rattle.admission_core.proofs.occupied.Occupied.new.Given as goal

abbrev pub invariant-loop-r : goal.invariant-loop-r
invariant-loop-r l = record {
  long : length l.bits.items ≡ l.r;
  each : (r : ℕ) → r < l.r → AreBitsOf l.ranks.items r (get_or l.bits.items r 0);
}
