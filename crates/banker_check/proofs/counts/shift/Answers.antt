-- The numbers rise and fall by one at most, and there are none after the last resource.
use Rattle.std.proofs.Common.{◌<◌, ◌≤◌, arith, ⊎_elim}
use Rattle.std.proofs.lemmas.Bool.{cases_lt}
use Rattle.std.proofs.lemmas.Nat.Bits.{bit_at_above}
use Rattle.banker_check.proofs.counts.shift.Goals as goal

pub returns : goal.returns
returns c k =
    ⊎_elim (λ (low : k < 64). c.loop-r.invariant.done k (omega (arith, low, c.loop-r-test.false)))
    (λ (high : 64 ≤ k). omega (
      arith,
      c.loop-r.invariant.left k (omega (arith, high)),
      bit_at_above c.args.from 64 k (omega arith) high,
      bit_at_above c.args.to 64 k (omega arith) high,
    ))
    (cases_lt k 64)
