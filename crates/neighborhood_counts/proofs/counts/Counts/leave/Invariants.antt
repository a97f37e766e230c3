-- The bits that are left are of the mask, and the counts of the others have changed.
use Rattle.std.proofs.Common.{◌≡◌, ℕ, ◌+◌, ◌≤◌, length, get_or}
use Rattle.std.specs.Int.{bit_at}
use Rattle.neighborhood_counts.proofs.counts.Counts.leave.Given as goal

abbrev pub invariant-loop-left : goal.invariant-loop-left
invariant-loop-left l = record {
  left : (q : ℕ) → bit_at l.left q ≤ bit_at l.mask q;
  counts : (q : ℕ) → get_or l.self.counts q 0 + bit_at l.mask q ≡ get_or l.initial.self.counts q 0 + bit_at l.left q;
  length : length l.self.counts ≡ length l.initial.self.counts;
  capacities : l.self.capacities ≡ l.initial.self.capacities;
}

abbrev pub decreases-loop-left : goal.decreases-loop-left
decreases-loop-left l = l.left
