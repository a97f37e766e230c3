-- Each entry takes the next slot.
use Rattle.std.proofs.Common.{arith, subst, sym, ◌∙◌}
use Rattle.std.proofs.lemmas.List.{take_all}
use Rattle.std.proofs.lemmas.Option.{get_or_from_slice_get, slice_get_within}
use Rattle.part_table.specs.Logs.{ArePlaces}
use Rattle.part_table.proofs.Listing.{reassigned_more, length_items}
use Rattle.part_table.proofs.log.reassign_slots.Goals as goal

pub come-slot-requires : goal.come-slot-requires
come-slot-requires c =
    let long = length_items c.args.chain.now.entries c.loop-at.chain.entries c.loop-at.invariant.items in
    let inside = slice_get_within c.loop-at.chain.entries c.loop-at.at c.get-entry.result c.get-entry.ensures in
    omega (arith, c.requires.room, c.loop-at.invariant.given, c.loop-at.invariant.room, long, inside)

pub loop-at-preserved : goal.loop-at-preserved
loop-at-preserved c =
    let first = c.args.chain.now.entries in
    let entries = c.loop-at.chain.entries in
    let last = c.get-entry.result in
    let there = c.get-entry.ensures in
    let inside = slice_get_within entries c.loop-at.at last there in
    let read = sym (get_or_from_slice_get entries c.loop-at.at last last there) in
    let more = reassigned_more first entries c.loop-at.at last c.loop-at.slots c.come-slot.new.self c.come-slot.result inside read
    c.requires.distinct c.loop-at.invariant.items c.loop-at.invariant.stay c.loop-at.invariant.placed c.come-slot.ensures.place
    c.come-slot.ensures.slot in
    rw (c.set_slot.ensures.entries last there)
    (record {
      items = more.items;
      stay = more.stay;
      placed = more.placed;
      capacity = c.set_slot.ensures.room ∙ c.loop-at.invariant.capacity;
      resources = c.set_slot.ensures.resources ∙ c.loop-at.invariant.resources;
      given = omega (arith, c.come-slot.ensures.given, c.loop-at.invariant.given);
      room = c.come-slot.ensures.room ∙ c.loop-at.invariant.room;
    })

pub returns-clause-placed : goal.returns-clause-placed
returns-clause-placed c =
    let long = length_items c.args.chain.now.entries c.loop-at.chain.entries c.loop-at.invariant.items in
    subst (λ entries. ArePlaces entries c.loop-at.slots)
    (take_all c.loop-at.at c.loop-at.chain.entries (omega (arith, long, c.len-at-end.ensures, c.loop-at-test.false, c.loop-at.auto.at-end)))
    c.loop-at.invariant.placed
