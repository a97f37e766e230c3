-- The part stands at a stage, and work moves none.
use Rattle.std.proofs.Common.{List, subst, sym}
use Rattle.cell_base.specs.declared.requests.Part.{Part}
use Rattle.cell_base.specs.Outcomes.{is_waiting_on}
use Rattle.admission_core.specs.Occupied.{IsMarked}
use Rattle.admission_core.proofs.Marking.{marked_finished}
use Rattle.admission_core.proofs.Moving.{part_known}
use Rattle.admission_core.proofs.planning.bring_on.Goals as goal

pub step_of-step-requires : goal.step_of-step-requires
step_of-step-requires c =
    (part_known c.args.table.now c.args.tally.now.parts.parts c.args.found.part.job c.args.found.part c.requires.sound.admitted
    c.requires.found).stage

pub returns-in-Process-clause-marked : goal.returns-in-Process-clause-marked
returns-in-Process-clause-marked c =
    subst (λ (parts : List Part). IsMarked c.args.table.now parts c.args.occupied.now) (sym c.finish_first_on.ensures.parts)
    (marked_finished c.args.table.now c.args.tally.now.parts.parts c.args.occupied.now c.requires.marked
    (is_waiting_on c.args.table.now c.in-Process.machine.0))
