-- Every step is asked under number 0, and the record is that of what was asked.
use Rattle.cell_base.specs.Plans.{plan_of}
use Rattle.durable_cell.specs.DurableState.{DurableState, first_parts}
use Rattle.cell_walks.specs.Allowed.{StandsForAdded}
use Rattle.cell_walks.specs.DiskTold.{disk_told}
use Rattle.journal_texts.specs.Recorded.{recorded_outcome}
use Rattle.journal_texts.proofs.AskedSteps.{asked_so, asked_under, same_opening}
use Rattle.cell_commands.proofs.PlanSteps.{plan_fits}
use Rattle.cell_commands.proofs.drain.drain_all.Goals as goal

pub record_of-requires : goal.record_of-requires
record_of-requires g c =
    let durable = c.args.durable in
    let fits = c.ask_steps.ensures.kept.fits in
    asked_under (plan_of durable.cell (first_parts durable)) durable c.ask_steps.new.durable fits
    (plan_fits durable.cell fits (first_parts durable) c.ask_steps.ensures.admitted) c.ask_steps.ensures.drained

pub returns-clause-drained : goal.returns-clause-drained
returns-clause-drained g c =
    asked_so (plan_of c.args.durable.cell (first_parts c.args.durable)) c.args.durable c.ask_steps.new.durable
    c.ask_steps.ensures.drained (recorded_outcome c.record_of.result.made) c.record_of.ensures.recorded

pub returns-clause-stands : goal.returns-clause-stands
returns-clause-stands g c =
    let outcome = recorded_outcome c.record_of.result.made in
    same_opening (plan_of c.args.durable.cell (first_parts c.args.durable)) c.args.durable c.ask_steps.new.durable
    c.ask_steps.ensures.drained
    (λ (durable : DurableState _). StandsForAdded
    (disk_told g.D.Disk.reads_as g.D.Disk.may_leave g.D.Disk.moment g.D.Disk.left_since g.D.Disk.faults durable.entry
    c.record_of.result.disk) durable.text durable.opening outcome.added outcome.unsure)
    (λ disk history added unsure stands. stands) c.record_of.ensures.stands

pub returns-clause-due : goal.returns-clause-due
returns-clause-due g c = c.ask_steps.ensures.kept.due
