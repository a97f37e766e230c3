-- An unload that is granted takes out the part, and work moves none.
use Rattle.std.proofs.Common.{List, subst, sym, ◌∙◌}
use Rattle.cell_base.specs.declared.requests.Part.{Part}
use Rattle.cell_base.specs.Outcomes.{is_waiting_on}
use Rattle.admission_core.specs.Occupied.{IsMarked}
use Rattle.admission_core.proofs.Marking.{marked_finished}
use Rattle.policy_laws.proofs.Granting.{unload-granted}
use Rattle.admission_core.proofs.changes.apply.Goals as goal

pub returns-in-Unload-clause-parts : goal.returns-in-Unload-clause-parts
returns-in-Unload-clause-parts c =
    rw c.in-Unload.is
    (c.leave.ensures.parts
    ∙ sym
    (unload-granted c.args.table.now c.args.tally.now.parts.parts c.in-Unload.job (rw c.in-Unload.is at c.requires.granted)))

pub returns-in-Process-clause-marked : goal.returns-in-Process-clause-marked
returns-in-Process-clause-marked c =
    subst (λ (parts : List Part). IsMarked c.args.table.now parts c.args.occupied.now) (sym c.finish_first_on.ensures.parts)
    (marked_finished c.args.table.now c.args.tally.now.parts.parts c.args.occupied.now c.requires.marked
    (is_waiting_on c.args.table.now c.in-Process.machine.0))
