-- The entry is found by its job.
use Rattle.std.proofs.Common.{cond, Some, nat_eq, ap, ◌∙◌}
use Rattle.part_table.specs.Slots.{place_at, slot_of}
use Rattle.part_table.proofs.Logs.{places_pushed}
use Rattle.part_table.proofs.Places.{known_pushed}
use Rattle.part_table.proofs.Staying.{staying_pushed}
use Rattle.part_table.proofs.log.Log.push.Goals as goal

pub invariant_of-self : goal.invariant_of-self
invariant_of-self c =
    let entries = c.self.inside.chain.entries in
    let slots = c.self.inside.slots in
    let absent = rw (← c.self.view_is) at c.requires.absent in
    rw (c.push.ensures.entries)
    (places_pushed entries slots c.self.invariant c.args.item c.come-slot.result c.come-slot.new.self absent
    (λ q. c.come-slot.ensures.place q
    ∙ ap (λ n. cond (nat_eq c.args.item.part.job.0 q) (Some n) (place_at c.self.inside.slots q)) c.len.ensures)
    (known_pushed entries (slot_of slots) (slot_of c.come-slot.new.self) (λ k entry. entry.slot)
    c.self.invariant.slotted c.args.item c.come-slot.result absent c.come-slot.ensures.slot))

pub returns-clause-items : goal.returns-clause-items
returns-clause-items c =
    rw (← c.self.view_is, c.push.ensures.entries)
    (staying_pushed c.self.inside.chain.entries c.args.item c.come-slot.result)
