-- No entries are linked.
use Rattle.std.proofs.Common.{[], arith}
use Rattle.part_table.proofs.Chains.{chained_none}
use Rattle.part_table.proofs.chain.Chain.with_room.Goals as goal

pub invariant_of-result : goal.invariant_of-result
invariant_of-result c =
    rw (c.in_ok-with_capacity.ensures.items)
    (record {
      within = omega arith;
      small = omega (arith, c.requires, c.in_ok-with_capacity.ensures.exact);
      chained = chained_none [] [] c.in_ok-no_ends.field-0.items (omega (arith, c.ranges.resources.fits, c.in_ok-no_ends.ensures.resources))
          c.in_ok-no_ends.ensures.none;
    })
