-- The durable cell is in hand.
use Rattle.cell_lock.proofs.Seats.{carries, holding_carries}
use Rattle.cell_lock.proofs.steps.plan_held.Goals as goal

pub slot_mut-durable-requires : goal.slot_mut-durable-requires
slot_mut-durable-requires g c =
    (c.requires.table, carries c.args.seat.now.me _ (holding_carries c.args.seat.now.me _ c.requires.holds))
