-- The part that goes on has the resource of its next stage.
use Rattle.std.proofs.Common.{List, ap, ◌∙◌, subst, sym}
use Rattle.part_table.specs.declared.standing.Standing.{Standing}
use Rattle.part_table.specs.Standings.{parts_of, AreOn}
use Rattle.part_table.proofs.Finding.{found_loaded}
use Rattle.part_table.proofs.Told.{AreOn-advanced, parts_of-advanced}
use Rattle.part_table.proofs.parts.Parts.advance_found.Goals as goal

pub advance-requires-clause-present : goal.advance-requires-clause-present
advance-requires-clause-present c =
    let present = rw (← c.self.view_is) at c.requires in
    found_loaded (parts_of c.self.inside.arrivals.items) c.args.found.part.job c.args.found.part present

pub invariant_of-self : goal.invariant_of-self
invariant_of-self c =
    let found = c.args.found in
    let present = rw (← c.self.view_is) at c.requires in (
      λ cell told. subst (AreOn cell) (sym c.advance.ensures.items)
          (AreOn-advanced cell c.self.inside.arrivals.items found.part.job c.args.place c.args.done c.on-on.result found.part
          (c.self.invariant.0 cell told) present (c.on-on.ensures.told cell told)),
      c.advance.ensures.resources ∙ c.self.invariant.1,
    )

pub returns-clause-parts : goal.returns-clause-parts
returns-clause-parts c =
    rw (← c.self.view_is)
    (ap (λ (items : List Standing). parts_of items) c.advance.ensures.items
    ∙ parts_of-advanced c.self.inside.arrivals.items c.args.found.part.job c.args.place c.args.done c.on-on.result)
