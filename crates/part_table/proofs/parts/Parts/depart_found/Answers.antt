-- The parts that stay keep their resources.
use Rattle.std.proofs.Common.{List, ap, sym, subst, ◌∙◌}
use Rattle.part_table.specs.declared.standing.Standing.{Standing}
use Rattle.part_table.specs.Standings.{parts_of, AreOn}
use Rattle.part_table.proofs.Finding.{found_loaded}
use Rattle.part_table.proofs.Standings.{parts_of-without}
use Rattle.part_table.proofs.Told.{AreOn-without}
use Rattle.part_table.proofs.parts.Parts.depart_found.Goals as goal

pub depart-requires : goal.depart-requires
depart-requires c =
    let present = rw (← c.self.view_is) at c.requires in
    found_loaded (parts_of c.self.inside.arrivals.items) c.args.found.part.job c.args.found.part present

pub invariant_of-self : goal.invariant_of-self
invariant_of-self c = (
  λ cell told. subst (AreOn cell) (sym c.depart.ensures.items)
      (AreOn-without cell c.self.inside.arrivals.items c.args.found.part.job (c.self.invariant.0 cell told)),
  c.depart.ensures.resources ∙ c.self.invariant.1,
)

pub returns-clause-parts : goal.returns-clause-parts
returns-clause-parts c =
    rw (← c.self.view_is)
    (ap (λ (items : List Standing). parts_of items) c.depart.ensures.items
    ∙ parts_of-without c.self.inside.arrivals.items c.args.found.part.job)
