-- The entry that is done has its place.
use Rattle.std.proofs.Common.{◌<◌, length}
use Rattle.part_table.proofs.Jobs.{entry_at}
use Rattle.part_table.proofs.Logs.{places_done}
use Rattle.part_table.proofs.log.Log.finish.Goals as goal

pub invariant_of-self : goal.invariant_of-self
invariant_of-self c =
    let entries = c.self.inside.chain.entries in
    let inside : c.args.at < length c.self.inside.chain.entries = rw (← c.self.view_is) at c.requires in
    let there = entry_at entries c.args.at inside in
    rw (c.finish.ensures.entries there.0 there.1) (places_done entries c.self.inside.slots c.self.invariant c.args.at there.0 there.1)
