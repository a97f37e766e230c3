-- The part leaves its place in the order, and comes again after all others.
use Rattle.std.proofs.Common.{◌≡◌, true, length, ap, sym, arith, ◌∙◌}
use Rattle.std.proofs.lemmas.Bool.{false≢true}
use Rattle.cell_base.specs.Policy.{is_loaded}
use Rattle.part_table.specs.Standings.{advanced, parts_of}
use Rattle.part_table.specs.Logs.{staying}
use Rattle.part_table.proofs.Advancing.{distinct_advanced, length_advanced}
use Rattle.part_table.proofs.Staying.{not_loaded_from_absent}
use Rattle.part_table.proofs.arrivals.Arrivals.advance.Goals as goal

pub invariant_of-self : goal.invariant_of-self
invariant_of-self c =
    let items = staying c.self.inside.log.entries in
    let present = rw (← c.self.view_is) at c.requires.present in
    let after : staying c.advance.new.self.entries ≡
    advanced (staying c.self.inside.log.entries) c.args.job c.args.place c.args.done c.args.on =
    c.advance.ensures.items
    ∙ ap (λ items. advanced items c.args.job c.args.place c.args.done c.args.on) c.make_room.ensures.items in
    record {
      distinct = rw after
          (distinct_advanced items c.args.job c.args.place c.args.done c.args.on c.self.invariant.distinct present);
      counted = c.self.invariant.counted
          ∙ sym (ap length after ∙ length_advanced items c.args.job c.args.place c.args.done c.args.on c.self.invariant.distinct present);
      within = c.self.invariant.within;
      fits = omega (arith, c.self.invariant.fits, c.advance.ensures.room, c.make_room.ensures.room);
      slots = omega (arith, c.self.invariant.slots, c.advance.ensures.slots, c.make_room.ensures.slots);
    }

pub returns-in_default-clause-items : goal.returns-in_default-clause-items
returns-in_default-clause-items c =
    let present = rw (← c.self.view_is) at c.requires.present in
    let absent = rw c.in_default.is at c.place_near.ensures in
    let is : is_loaded (parts_of (staying c.make_room.new.log.entries)) c.args.job ≡ true = rw c.make_room.ensures.items present in
    absurd (false≢true (sym (not_loaded_from_absent c.make_room.new.log.entries c.args.job absent) ∙ is))
