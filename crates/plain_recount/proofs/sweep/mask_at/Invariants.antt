-- The mask has the bits of the resources so far.
use Rattle.std.proofs.Common.{◌≡◌}
use Rattle.cell_base.specs.Stages.{stage}
use Rattle.cell_base.specs.Neighborhoods.{leads}
use Rattle.plain_recount.proofs.Bits.{bits_below}
use Rattle.plain_recount.proofs.sweep.mask_at.Given as goal

abbrev pub invariant-loop-r : goal.invariant-loop-r
invariant-loop-r l = l.mask ≡ bits_below (leads l.cell (stage l.fn.kind.0 l.fn.place)) l.r
