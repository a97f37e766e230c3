-- There is room for as many parts as units.
use Rattle.std.proofs.Common.{arith}
use Rattle.policy_laws.proofs.Units.{units_law}
use Rattle.plain_recount.proofs.recount.Recount.keep.Goals as goal

pub copy-requires : goal.copy-requires
copy-requires c =
    let sound = c.self.invariant.0 in
    rw c.as_slice.ensures.value (omega (arith, units_law _ sound.fits _ sound.admitted, c.self.invariant.1.enough))
