-- No part is there yet.
use Rattle.part_table.proofs.Told.{none_on}
use Rattle.part_table.proofs.parts.Parts.told_of.Goals as goal

pub invariant_of-self : goal.invariant_of-self
invariant_of-self c =
    let empty = rw (← c.self.view_is) at c.requires.empty in
    (λ cell told. none_on cell c.self.inside.arrivals.items empty, c.self.invariant.1)
