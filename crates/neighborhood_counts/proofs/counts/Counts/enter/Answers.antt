-- The lowest bit that is left is one of the mask, and its count has not changed yet.
use Rattle.std.proofs.Common.{◌<◌, length, arith, w64, length-set, ◌∙◌}
use Rattle.std.specs.Int.{trailing_zeros}
use Rattle.cell_base.proofs.Bits.{without_lowest, has_bit-of_one}
use Rattle.neighborhood_counts.proofs.Full.{room_of_none}
use Rattle.neighborhood_counts.proofs.Steps.{set_in_mask, rest_in_mask, raised}
use Rattle.neighborhood_counts.proofs.counts.Counts.enter.Goals as goal

pub raise-requires-clause-within : goal.raise-requires-clause-within
raise-requires-clause-within c =
    let step = without_lowest c.loop-left.left (omega arith) (omega arith) in
    let here = set_in_mask c.args.mask c.loop-left.left _ _ step c.loop-left.invariant.left in
    rw c.loop-left.invariant.length (c.requires.mask _ (has_bit-of_one _ _ here))

pub raise-requires-clause-room : goal.raise-requires-clause-room
raise-requires-clause-room c =
    let step = without_lowest c.loop-left.left (omega arith) (omega arith) in
    let here = set_in_mask c.args.mask c.loop-left.left _ _ step c.loop-left.invariant.left in
    let set_here = has_bit-of_one _ _ here in
    let room = room_of_none c.args.self.now c.args.mask c.requires.room _ (c.requires.mask _ set_here) set_here in
    rw c.loop-left.invariant.capacities
    (omega (arith, room, here, step.here, c.loop-left.invariant.counts (trailing_zeros w64 c.loop-left.left)))

pub loop-left-smaller : goal.loop-left-smaller
loop-left-smaller c = (without_lowest c.loop-left.left (omega arith) (omega arith)).less

pub loop-left-preserved : goal.loop-left-preserved
loop-left-preserved c =
    let step = without_lowest c.loop-left.left (omega arith) (omega arith) in
    let here = set_in_mask c.args.mask c.loop-left.left _ _ step c.loop-left.invariant.left in
    let within : trailing_zeros w64 c.loop-left.left < length c.loop-left.self.counts =
    rw c.loop-left.invariant.length (c.requires.mask _ (has_bit-of_one _ _ here)) in
    record {
      left = rest_in_mask c.args.mask c.loop-left.left _ _ step c.loop-left.invariant.left;
      counts = rw c.raise.ensures.counts
          (raised c.args.mask c.loop-left.left _ _ step c.loop-left.invariant.left c.loop-left.self.counts c.args.self.now.counts
          within c.loop-left.invariant.counts);
      length = rw (c.raise.ensures.counts, length-set) c.loop-left.invariant.length;
      capacities = c.raise.ensures.capacities ∙ c.loop-left.invariant.capacities;
    }
