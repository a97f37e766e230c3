-- There is room, and the job is a new one.
use Rattle.std.proofs.Common.{◌≡◌, ◌<◌, ◌-◌, ◌++◌, ◌∷◌, [], length, ap, arith, ◌∙◌}
use Rattle.std.proofs.lemmas.List.{length_push}
use Rattle.part_table.specs.declared.standing.Standing.{Standing}
use Rattle.part_table.specs.Logs.{staying}
use Rattle.part_table.proofs.Standings.{distinct_arrived}
use Rattle.part_table.proofs.Staying.{absent_from_not_loaded}
use Rattle.part_table.proofs.arrivals.Arrivals.arrive.Goals as goal

pub push-requires-clause-absent : goal.push-requires-clause-absent
push-requires-clause-absent c =
    let absent = rw (← c.self.view_is) at c.requires.absent in
    absent_from_not_loaded c.make_slot.new.log.entries c.args.part.job
    (rw (c.make_slot.ensures.items ∙ c.make_room.ensures.items) absent)

pub invariant_of-self : goal.invariant_of-self
invariant_of-self c =
    let absent = rw (← c.self.view_is) at c.requires.absent in
    let room : 0 < c.self.inside.room - c.self.inside.count = rw (← c.self.view_is) at c.requires.room in
    let last : Standing = record { part = c.args.part; on = c.args.on } in
    let items : staying c.push.new.self.entries ≡ staying c.self.inside.log.entries ++ last ∷ [] =
    c.push.ensures.items ∙ ap (λ before. before ++ last ∷ []) (c.make_slot.ensures.items ∙ c.make_room.ensures.items) in
    record {
      distinct = rw items (distinct_arrived (staying c.self.inside.log.entries) c.args.part c.args.on c.self.invariant.distinct absent);
      counted = omega (arith, c.self.invariant.counted, ap length items, length_push (staying c.self.inside.log.entries) last);
      within = omega (arith, room);
      fits = omega (arith, c.self.invariant.fits, c.push.ensures.room, c.make_slot.ensures.room, c.make_room.ensures.room);
      slots = omega (arith, c.self.invariant.slots, c.push.ensures.slots, c.make_slot.ensures.slots, c.make_room.ensures.slots);
    }
