-- The mask has the resources so far on which so many parts stand.
use Rattle.std.proofs.Common.{◌≡◌, ℕ, ◌+◌, ◌&&◌, nat_lt, nat_le, get_or}
use Rattle.cell_base.specs.Masks.{has_bit}
use Rattle.cell_base.specs.Stages.{capacity_of}
use Rattle.banker_check.proofs.fullness.holding.Given as goal

abbrev pub invariant-loop-r : goal.invariant-loop-r
invariant-loop-r l = (q : ℕ) → has_bit l.mask q ≡ (nat_lt q l.r && nat_le (capacity_of l.cell q + l.beyond) (get_or l.held q 0))
