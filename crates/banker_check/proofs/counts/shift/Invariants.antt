-- The numbers so far have changed, and the others have not.
use Rattle.std.proofs.Common.{◌≡◌, ℕ, ◌+◌, ◌<◌, ◌≤◌, length, get_or}
use Rattle.std.specs.Int.{bit_at}
use Rattle.banker_check.proofs.counts.shift.Given as goal

abbrev pub invariant-loop-r : goal.invariant-loop-r
invariant-loop-r l = record {
  complete : length l.counts ≡ length l.initial.counts;
  done : (k : ℕ) → k < l.r → get_or l.counts k 0 + bit_at l.from k ≡ get_or l.initial.counts k 0 + bit_at l.to k;
  left : (k : ℕ) → l.r ≤ k → get_or l.counts k 0 ≡ get_or l.initial.counts k 0;
}
