-- The first place of the resource shows the first part.
use Rattle.part_table.specs.Slots.{place_at}
use Rattle.part_table.specs.Chains.{standing_key}
use Rattle.part_table.specs.Standings.{is_on}
use Rattle.part_table.proofs.Jobs.{place_first}
use Rattle.part_table.proofs.Staying.{standing_shows}
use Rattle.part_table.proofs.log.Log.first_on.Goals as goal

pub returns : goal.returns
returns c =
    rw (← c.self.view_is)
    (place_first c.self.inside.chain.entries (place_at c.self.inside.slots) c.self.invariant.placed (is_on c.args.on) standing_key
    c.args.on.0 (standing_shows c.args.on c.first_on.ensures.below) c.first_on.result c.first_on.ensures.first)
