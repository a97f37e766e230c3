-- The bytes open as the grants that were replayed, or are refused.
use Rattle.std.proofs.Common.{◌≡◌, List, ℕ, Ok, subst}
use Rattle.std.specs.Prelude.{IfSome}
use Rattle.journal_format.specs.Replayed.{opened_as}
use Rattle.shift_recovery.specs.Opening.{IsRefusalOf}
use Rattle.durable_cell.specs.declared.replays.TheConstants.{MAX_ROOM}
use Rattle.cell_texts.specs.Tests.{known}
use Rattle.journal_texts.proofs.Openings.{unopened}
use Rattle.journal_texts.proofs.readers.replay_journal.Goals as goal

pub returns-in-Ok-clause-replayed : goal.returns-in-Ok-clause-replayed
returns-in-Ok-clause-replayed g c =
    let after = c.in-Ok.ensures.resumed in
    record {
      first = after.first;
      grants = after.grants;
      taken = after.taken;
      opened = (
        after.core.due,
        subst (λ (text : List ℕ). IfSome (g.D.Disk.reads_as c.args.disk)
            (λ file. opened_as c.args.held.cell file text MAX_ROOM ≡ Ok after.grants)) c.deref.ensures.value after.opened,
      );
      core = after.core.state;
      count = c.count-count.ensures c.deref.result.now after.grants after.holds;
    }

pub returns-clause-ended : goal.returns-clause-ended
returns-clause-ended g c =
    rw (c.ended-in-Err.ensures.made, c.ended-in-Err.ensures.disk, c.at_open_fault.ensures)
    (unopened g.D.Disk.reads_as g.D.Disk.may_leave g.D.Disk.moment g.D.Disk.left_since g.D.Disk.faults (known c.args.held) c.args.disk
    c.in-Err.field-0.disk c.in-Err.field-0.why c.in-Err.ensures.reads
    (subst (λ (text : List ℕ). IsRefusalOf (g.D.Disk.reads_as c.args.disk)
    (λ file. opened_as c.args.held.cell file text MAX_ROOM) c.in-Err.field-0.why) c.deref.ensures.value c.in-Err.ensures.refused)
    c.in-Err.ensures.cause)
