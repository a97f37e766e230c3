-- The sessions start, or some grants are another shift's.
use Rattle.std.proofs.Common.{List, Result, sym, ◌∙◌, subst}
use Rattle.cell_base.specs.declared.shifts.Grant.{Grant}
use Rattle.cell_base.specs.Starts.{AreFirstSteps}
use Rattle.cell_sessions.specs.Starting.{AreBegun, IsBeginFault}
use Rattle.cell_walks.specs.DiskTold.{disk_told}
use Rattle.cell_walks.specs.declared.early_end.EarlyEnd.{EarlyEnd}
use Rattle.journal_texts.specs.declared.recorded.Recorded.{Recorded}
use Rattle.run_command.specs.JournalRuns.{HasStarted, StartRefused}
use Rattle.run_command.proofs.sessions.start.Goals as goal

-- what the law says of the grants that are told, it says of all of them
pub share-requires-clause-started : goal.share-requires-clause-started
share-requires-clause-started g c κs inside =
    let own = c.as_slice.ensures ∙ c.requires.own in
    c.own_grants_law.ensures.started c.args.durable.opening
    (subst (λ (grants : List Grant). AreFirstSteps c.args.shift.now grants) own c.in-Ok.ensures.started)

pub share-requires-clause-begun : goal.share-requires-clause-begun
share-requires-clause-begun g c κs inside =
    let own = c.as_slice.ensures ∙ c.requires.own in
    c.own_grants_law.ensures.begun c.args.durable.opening c.in-Ok.progress
    (subst (λ (grants : List Grant). AreFirstSteps c.args.shift.now grants) own c.in-Ok.ensures.started)
    (subst (λ (grants : List Grant). AreBegun c.args.shift.now grants c.in-Ok.progress) own c.in-Ok.ensures.begun)

pub returns-in-Err-OtherShift-clause-started : goal.returns-in-Err-OtherShift-clause-started
returns-in-Err-OtherShift-clause-started g c =
    let durable = c.args.durable in
    let disk = disk_told g.D.Disk.reads_as g.D.Disk.may_leave g.D.Disk.moment g.D.Disk.left_since g.D.Disk.faults durable.entry
    c.give_back.result.disk in
    let own = c.as_slice.ensures ∙ c.requires.own in
    let fault = subst (λ (grants : List Grant). IsBeginFault c.args.shift.now grants c.in-Err-OtherShift.field-0) own
    c.in-Err-OtherShift.ensures.fault in
    let other = rw c.in-Err-OtherShift.field-0-is
    at (c.own_grants_law.ensures.fault durable.opening c.in-Err-OtherShift.field-0 fault) in
    subst (λ (made : Result Recorded EarlyEnd). HasStarted disk durable.cell durable.text c.args.shift.now durable.opening made)
    (sym c.give_back.ensures.made) (
      StartRefused c.in-Err-OtherShift.session other (rw c.in-Err-OtherShift.field-0-is at c.at_other_shift.ensures),
      c.give_back.ensures.stands,
    )
