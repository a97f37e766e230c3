-- The resource that is kept is the one of the stage.
use Rattle.std.proofs.Common.{sym, ◌∙◌}
use Rattle.part_table.proofs.Told.{on_found}
use Rattle.part_table.proofs.parts.Parts.find_on.Goals as goal

pub returns : goal.returns
returns c =
    rw (← c.self.view_is) (λ cell told.
    c.first_on.ensures ∙ sym (on_found cell c.args.on c.self.inside.arrivals.items (c.self.invariant.0 cell told)))
