-- The part is at its place, since its job is present.
use Rattle.std.proofs.Common.{◌≡◌, length, ap, sym, arith, ◌∙◌}
use Rattle.std.proofs.lemmas.Bool.{false≢true}
use Rattle.std.proofs.lemmas.List.{length-map}
use Rattle.part_table.specs.Standings.{finished, finish}
use Rattle.part_table.specs.Logs.{staying}
use Rattle.part_table.proofs.Standings.{distinct_finished}
use Rattle.part_table.proofs.Staying.{staying_finished, not_loaded_from_absent}
use Rattle.part_table.proofs.arrivals.Arrivals.finish.Goals as goal

pub invariant_of-self : goal.invariant_of-self
invariant_of-self c =
    let entries = c.self.inside.log.entries in
    let place = c.in-Some.ensures in
    let present = rw (← c.self.view_is) at c.requires in
    let items : staying c.finish.new.self.entries ≡ finished (staying c.self.inside.log.entries) c.args.job =
    ap staying (c.finish.ensures.entries place.0 place.1)
    ∙ staying_finished entries c.in-Some.at place.0 c.args.job place.1 place.2 place.3 place.4 in
    record {
      distinct = rw items (distinct_finished (staying entries) c.args.job c.self.invariant.distinct);
      counted = omega (arith, c.self.invariant.counted, ap length items, length-map (staying entries) (finish c.args.job));
      within = omega (arith, c.self.invariant.within);
      fits = omega (arith, c.self.invariant.fits, c.finish.ensures.room);
      slots = omega (arith, c.self.invariant.slots, c.finish.ensures.slots);
    }

pub returns-in-Some-clause-items : goal.returns-in-Some-clause-items
returns-in-Some-clause-items c =
    let place = c.in-Some.ensures in
    rw (← c.self.view_is)
    (ap staying (c.finish.ensures.entries place.0 place.1)
    ∙ staying_finished c.self.inside.log.entries c.in-Some.at place.0 c.args.job place.1 place.2 place.3 place.4)

pub returns-in_default-clause-items : goal.returns-in_default-clause-items
returns-in_default-clause-items c =
    let present = rw (← c.self.view_is) at c.requires in
    let absent = rw c.in_default.is at c.place_of.ensures in
    absurd (false≢true (sym (not_loaded_from_absent c.self.inside.log.entries c.args.job absent) ∙ present))
