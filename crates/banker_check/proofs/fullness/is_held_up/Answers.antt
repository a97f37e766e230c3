-- The mask of the way meets a resource that is full beside the part.
use Rattle.std.proofs.Common.{◌*◌, ◌^◌, ◌%◌, bit_and, bit_or, w64, arith}
use Rattle.std.specs.Int.{bit_not}
use Rattle.std.proofs.lemmas.Nat.{and_le_l}
use Rattle.banker_check.proofs.WayMasks.{held_up-masks}
use Rattle.banker_check.proofs.fullness.is_held_up.Goals as goal

pub returns : goal.returns
returns c counts are =
    let barred = bit_or (bit_and c.args.held.full (bit_not w64 (1 * 2 ^ c.resource_at.result.0 % 2 ^ 64))) c.args.held.over in
    held_up-masks c.args.table.now c.table_law.ensures c.args.part c.requires counts c.args.held are c.resource_at.result.0
    c.resource_at.ensures.value c.way.result (omega (arith, and_le_l c.way.result barred)) c.way.ensures
