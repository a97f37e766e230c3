-- There are at most as many parts as units, which a `u32` counts.
use Rattle.std.proofs.Common.{arith}
use Rattle.policy_laws.proofs.Room.{few_parts}
use Rattle.plain_recount.proofs.recount.Recount.parts_left.Goals as goal

pub overflow_cast-result : goal.overflow_cast-result
overflow_cast-result c = omega (arith, few_parts _ c.self.invariant.0.fits _ c.self.invariant.0.admitted)
