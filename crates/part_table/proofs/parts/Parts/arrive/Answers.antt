-- The new part has the resource of its stage.
use Rattle.std.proofs.Common.{List, ap, sym, subst, ◌∙◌}
use Rattle.part_table.specs.declared.standing.Standing.{Standing}
use Rattle.part_table.specs.Standings.{parts_of, AreOn}
use Rattle.part_table.proofs.Told.{AreOn-push, parts_of-push}
use Rattle.part_table.proofs.parts.Parts.arrive.Goals as goal

pub invariant_of-self : goal.invariant_of-self
invariant_of-self c = (
  λ cell told. subst (AreOn cell) (sym c.arrive.ensures.items)
      (AreOn-push cell c.self.inside.arrivals.items c.args.part c.on-on.result (c.self.invariant.0 cell told)
      (c.on-on.ensures.told cell told)),
  c.arrive.ensures.resources ∙ c.self.invariant.1,
)

pub returns-clause-parts : goal.returns-clause-parts
returns-clause-parts c =
    rw (← c.self.view_is)
    (ap (λ (items : List Standing). parts_of items) c.arrive.ensures.items
    ∙ parts_of-push c.self.inside.arrivals.items c.args.part c.on-on.result)
