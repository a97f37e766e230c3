-- The resource that is kept is the one of the stage.
use Rattle.std.proofs.Common.{sym, ◌∙◌}
use Rattle.part_table.proofs.Told.{waiting_told}
use Rattle.part_table.proofs.parts.Parts.first_waiting.Goals as goal

pub returns-then-from-lt-MAX_RESOURCES : goal.returns-then-from-lt-MAX_RESOURCES
returns-then-from-lt-MAX_RESOURCES c =
    let told = rw (← c.self.view_is) at c.requires.told in
    rw (← c.self.view_is)
    (c.first_waiting.ensures
    ∙ waiting_told c.self.inside.lanes c.args.table.now c.args.on c.self.inside.arrivals.items
    (sym c.are_told.ensures ∙ c.if-are_told.true) told c.self.invariant.0)
