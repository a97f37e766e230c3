-- The mask has the resources so far that are of at least the order.
use Rattle.std.proofs.Common.{◌≡◌, ℕ, ◌&&◌, nat_lt, nat_le}
use Rattle.cell_base.specs.Masks.{has_bit}
use Rattle.cell_base.specs.Stages.{order_of}
use Rattle.upstream_sets.proofs.sweep.floor.Given as goal

abbrev pub invariant-loop-r : goal.invariant-loop-r
invariant-loop-r l = (q : ℕ) → has_bit l.mask q ≡ (nat_lt q l.r && nat_le l.least (order_of l.table q))
