-- The part is at its place, and is done there.
use Rattle.std.proofs.Common.{◌≡◌, length, ap, arith, ◌∙◌}
use Rattle.std.proofs.lemmas.List.{length-map}
use Rattle.part_table.specs.Standings.{is_waiting, finished, finish}
use Rattle.part_table.specs.Logs.{staying}
use Rattle.part_table.proofs.Jobs.{staying_first_done}
use Rattle.part_table.proofs.Standings.{distinct_finished}
use Rattle.part_table.proofs.arrivals.Arrivals.finish_first.Goals as goal

pub invariant_of-self : goal.invariant_of-self
invariant_of-self c =
    let entries = c.self.inside.log.entries in
    let job = c.get.result.item.part.job in
    let items : staying c.finish.new.self.entries ≡ finished (staying c.self.inside.log.entries) c.get.result.item.part.job =
    ap staying (c.finish.ensures.entries c.get.result c.get.ensures)
    ∙ staying_first_done (is_waiting c.args.on) entries c.in-Some.at c.get.result c.in-Some.ensures c.get.ensures in
    record {
      distinct = rw items (distinct_finished (staying entries) job c.self.invariant.distinct);
      counted = omega (arith, c.self.invariant.counted, ap length items, length-map (staying entries) (finish job));
      within = omega (arith, c.self.invariant.within);
      fits = omega (arith, c.self.invariant.fits, c.finish.ensures.room);
      slots = omega (arith, c.self.invariant.slots, c.finish.ensures.slots);
    }

pub returns-in-Some-clause-items : goal.returns-in-Some-clause-items
returns-in-Some-clause-items c =
    rw (← c.self.view_is)
    (ap staying (c.finish.ensures.entries c.get.result c.get.ensures)
    ∙ staying_first_done (is_waiting c.args.on) c.self.inside.log.entries c.in-Some.at c.get.result c.in-Some.ensures c.get.ensures)
