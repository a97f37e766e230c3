-- The lowest bit that is left is one of the mask, and its count has not changed yet.
use Rattle.std.proofs.Common.{◌<◌, length, get_or, arith, w64, length-set, ◌∙◌}
use Rattle.std.specs.Int.{trailing_zeros}
use Rattle.cell_base.proofs.Bits.{without_lowest, has_bit-of_one}
use Rattle.neighborhood_counts.proofs.Steps.{set_in_mask, rest_in_mask, lowered}
use Rattle.neighborhood_counts.proofs.counts.Counts.leave.Goals as goal

pub lower-requires-clause-within : goal.lower-requires-clause-within
lower-requires-clause-within c =
    let step = without_lowest c.loop-left.left (omega arith) (omega arith) in
    let here = set_in_mask c.args.mask c.loop-left.left _ _ step c.loop-left.invariant.left in
    rw c.loop-left.invariant.length (c.requires.mask _ (has_bit-of_one _ _ here))

pub lower-requires-clause-held : goal.lower-requires-clause-held
lower-requires-clause-held c =
    let step = without_lowest c.loop-left.left (omega arith) (omega arith) in
    let here = set_in_mask c.args.mask c.loop-left.left _ _ step c.loop-left.invariant.left in
    let held = c.requires.held _ (has_bit-of_one _ _ here) in
    omega (arith, held, here, step.here, c.loop-left.invariant.counts (trailing_zeros w64 c.loop-left.left))

pub loop-left-smaller : goal.loop-left-smaller
loop-left-smaller c = (without_lowest c.loop-left.left (omega arith) (omega arith)).less

pub loop-left-preserved : goal.loop-left-preserved
loop-left-preserved c =
    let step = without_lowest c.loop-left.left (omega arith) (omega arith) in
    let here = set_in_mask c.args.mask c.loop-left.left _ _ step c.loop-left.invariant.left in
    let within : trailing_zeros w64 c.loop-left.left < length c.loop-left.self.counts =
    rw c.loop-left.invariant.length (c.requires.mask _ (has_bit-of_one _ _ here)) in
    let held = c.requires.held _ (has_bit-of_one _ _ here) in
    let still : 0 < get_or c.loop-left.self.counts (trailing_zeros w64 c.loop-left.left) 0 =
    omega (arith, held, here, step.here, c.loop-left.invariant.counts (trailing_zeros w64 c.loop-left.left)) in
    record {
      left = rest_in_mask c.args.mask c.loop-left.left _ _ step c.loop-left.invariant.left;
      counts = rw c.lower.ensures.counts
          (lowered c.args.mask c.loop-left.left _ _ step c.loop-left.invariant.left c.loop-left.self.counts
          c.args.self.now.counts within still c.loop-left.invariant.counts);
      length = rw (c.lower.ensures.counts, length-set) c.loop-left.invariant.length;
      capacities = c.lower.ensures.capacities ∙ c.loop-left.invariant.capacities;
    }
