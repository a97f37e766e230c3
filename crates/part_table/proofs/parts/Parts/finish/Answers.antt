-- The part of the job is the first one of it, and each keeps its resource.
use Rattle.std.proofs.Common.{◌≡◌, List, ap, sym, subst, ◌∙◌}
use Rattle.cell_base.specs.Policy.{is_of_job}
use Rattle.cell_base.specs.Outcomes.{finish_first}
use Rattle.part_table.specs.declared.standing.Standing.{Standing}
use Rattle.part_table.specs.Standings.{parts_of, AreOn}
use Rattle.part_table.proofs.Told.{AreOn-finished, finished_first}
use Rattle.part_table.proofs.parts.Parts.finish.Goals as goal

pub invariant_of-self : goal.invariant_of-self
invariant_of-self c = (
  λ cell told. subst (AreOn cell) (sym c.finish.ensures.items)
      (AreOn-finished cell c.self.inside.arrivals.items c.args.job (c.self.invariant.0 cell told)),
  c.finish.ensures.resources ∙ c.self.invariant.1,
)

pub returns : goal.returns
returns c =
    let items = c.self.inside.arrivals.items in
    let parts : parts_of c.finish.new.self.items ≡ finish_first (is_of_job c.args.job) (parts_of items) =
    ap (λ (items : List Standing). parts_of items) c.finish.ensures.items
    ∙ finished_first items c.args.job c.finish.ensures.distinct in
    rw (← c.self.view_is) (λ i. record { told = c.self.inside.lanes; parts = parts i; spare = c.finish.ensures.spare i })
