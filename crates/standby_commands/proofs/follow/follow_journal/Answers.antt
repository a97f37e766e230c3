-- The journal is opened and followed, or the command ends there.
use Rattle.std.proofs.Common.{refl, ap, arith}
use Rattle.durable_cell.specs.DurableState.{DurableState}
use Rattle.cell_walks.specs.Allowed.{NotOpened}
use Rattle.cell_walks.specs.DiskTold.{disk_told}
use Rattle.cell_walks.proofs.Walked.{read_untouched}
use Rattle.cell_texts.specs.Tests.{known}
use Rattle.cell_texts.proofs.Disks.{untouched}
use Rattle.standby_commands.specs.FrameFiles.{frames_in}
use Rattle.standby_commands.proofs.FollowWalk.{followed_opened, starved}
use Rattle.standby_commands.proofs.FrameCuts.{count}
use Rattle.standby_commands.proofs.follow.follow_journal.Goals as goal

pub open_journal-requires-clause-limit : goal.open_journal-requires-clause-limit
open_journal-requires-clause-limit g c =
    omega (arith, c.requires.few, count c.args.bytes.now)

pub follow_opened-requires-clause-limit : goal.follow_opened-requires-clause-limit
follow_opened-requires-clause-limit g c =
    omega (arith, count c.args.bytes.now, ap (λ (d : DurableState _). d.limit) c.in-Ok-open_journal.ensures.new)

pub follow_opened-requires-clause-room : goal.follow_opened-requires-clause-room
follow_opened-requires-clause-room g c = omega (arith, count c.args.bytes.now, c.in-Ok.ensures.room)

pub follow_opened-requires-clause-fresh : goal.follow_opened-requires-clause-fresh
follow_opened-requires-clause-fresh g c = record {
  history = ap (λ (d : DurableState _). d.history) c.in-Ok-open_journal.ensures.new;
  added = ap (λ (d : DurableState _). d.added) c.in-Ok-open_journal.ensures.new;
  unsure = ap (λ (d : DurableState _). d.unsure) c.in-Ok-open_journal.ensures.new;
}

pub returns-in_default-clause-followed : goal.returns-in_default-clause-followed
returns-in_default-clause-followed g c =
    rw (c.ended.ensures.made, c.ended.ensures.disk)
    (let disk = disk_told g.D.Disk.reads_as g.D.Disk.may_leave g.D.Disk.moment g.D.Disk.left_since g.D.Disk.faults c.args.disk c.args.disk in
    starved disk (known c.args.held) (frames_in c.args.bytes.now)
    (read_untouched disk (untouched g.D.Disk.reads_as g.D.Disk.may_leave g.D.Disk.moment g.D.Disk.left_since g.D.Disk.faults c.args.disk
    (g.met.D.Disk.only_now c.args.disk))))

pub returns-in-Ok-open_journal-clause-followed : goal.returns-in-Ok-open_journal-clause-followed
returns-in-Ok-open_journal-clause-followed g c =
    followed_opened g.D.Disk.reads_as g.D.Disk.may_leave g.D.Disk.moment g.D.Disk.left_since g.D.Disk.faults (known c.args.held)
    (frames_in c.args.bytes.now) c.args.disk c.follow_opened.result.disk
    c.in-Ok-open_journal.durable _ c.follow_opened.result.made c.in-Ok-open_journal.ensures.new c.in-Ok-open_journal.ensures.opening
    c.follow_opened.ensures.due c.follow_opened.ensures.followed

pub returns-in-Err-clause-followed : goal.returns-in-Err-clause-followed
returns-in-Err-clause-followed g c =
    rw (c.ended-in-Err.ensures.made, c.ended-in-Err.ensures.disk)
    (NotOpened c.in-Err.unopened.made c.in-Err.ensures.ended refl)
