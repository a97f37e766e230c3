-- What stays is the same.
use Rattle.part_table.proofs.Staying.{staying_kept}
use Rattle.part_table.proofs.arrivals.make_room.Goals as goal

pub returns-then-is_worn-clause-items : goal.returns-then-is_worn-clause-items
returns-then-is_worn-clause-items c = rw c.compact.ensures.entries (staying_kept c.args.log.now.entries)
