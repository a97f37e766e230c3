-- The first place of the resource that is not done shows the first part that waits.
use Rattle.part_table.specs.Slots.{place_at}
use Rattle.part_table.specs.Chains.{waiting_key}
use Rattle.part_table.specs.Standings.{is_waiting}
use Rattle.part_table.proofs.Jobs.{place_first}
use Rattle.part_table.proofs.Staying.{waiting_shows}
use Rattle.part_table.proofs.log.Log.first_waiting.Goals as goal

pub returns : goal.returns
returns c =
    rw (← c.self.view_is)
    (place_first c.self.inside.chain.entries (place_at c.self.inside.slots) c.self.invariant.placed (is_waiting c.args.on) waiting_key
    c.args.on.0 (waiting_shows c.args.on c.first_waiting.ensures.below) c.first_waiting.result c.first_waiting.ensures.first)
