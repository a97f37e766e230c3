-- The first part that waits is the one that is finished, and each keeps its resource.
use Rattle.std.proofs.Common.{◌≡◌, ◌∙◌, Some}
use Rattle.cell_base.specs.declared.cells.Cell.{Cell}
use Rattle.cell_base.specs.Outcomes.{is_waiting_on, finish_first}
use Rattle.part_table.specs.Standings.{parts_of, AreOn}
use Rattle.part_table.proofs.Told.{waiting_job, worked}
use Rattle.part_table.proofs.parts.Parts.finish_first.Goals as goal

-- what the work leaves
work_leaves : (c : goal.After-finish_first) (cell : Cell) → c.self.inside.lanes ≡ Some cell
    → AreOn cell c.finish_first.new.self.items
    × (parts_of c.finish_first.new.self.items ≡ finish_first (is_waiting_on cell c.args.on.0) (parts_of c.self.inside.arrivals.items))
work_leaves c cell told =
    worked cell c.args.on c.self.inside.arrivals.items c.finish_first.new.self.items c.finish_first.result
    (c.self.invariant.0 cell told) c.finish_first.ensures.distinct c.finish_first.ensures.job c.finish_first.ensures.items

pub invariant_of-self : goal.invariant_of-self
invariant_of-self c = (λ cell told. (work_leaves c cell told).0, c.finish_first.ensures.resources ∙ c.self.invariant.1)

pub returns-clause-job : goal.returns-clause-job
returns-clause-job c =
    rw (← c.self.view_is) (λ cell told.
    c.finish_first.ensures.job ∙ waiting_job cell c.args.on c.self.inside.arrivals.items (c.self.invariant.0 cell told))

pub returns-clause-table : goal.returns-clause-table
returns-clause-table c =
    rw (← c.self.view_is) (λ cell told i. record {
      told = c.self.inside.lanes;
      parts = (work_leaves c cell told).1 i;
      spare = c.finish_first.ensures.spare i;
    })
