-- The frames are read, and then the journal follows them.
use Rattle.std.proofs.Common.{List, ℕ, sym, subst, ◌≤◌, length}
use Rattle.cell_walks.specs.DiskTold.{disk_seen}
use Rattle.cell_walks.specs.Observed.{files_seen}
use Rattle.cell_texts.specs.Tests.{known}
use Rattle.cell_driver.proofs.Driven.{untouched_by}
use Rattle.standby_commands.specs.Following.{IsFollowedOnJournal}
use Rattle.standby_commands.specs.FrameFiles.{frames_in}
use Rattle.standby_commands.proofs.FollowWalk.{follow_on_disk, follow_without_frames}
use Rattle.standby_commands.proofs.FrameCuts.{few_frames}
use Rattle.standby_commands.proofs.follow.FollowCommand.answer.Goals as goal

pub follow_journal-requires-clause-few : goal.follow_journal-requires-clause-few
follow_journal-requires-clause-few g c =
    few_frames c.deref.result.now (subst (λ (bs : List ℕ). length bs ≤ 50331648) (sym c.deref.ensures.value) c.in-Ok.ensures.short)

pub returns-in-Err-clause-allowed : goal.returns-in-Err-clause-allowed
returns-in-Err-clause-allowed g c =
    rw (c.ended.ensures.made, c.ended.ensures.disk)
    (follow_without_frames (files_seen g.F.Files c.args.files.now c.read_frames.new.files) (disk_seen g.D.Disk c.args.disk c.args.disk)
    (known c.args.held) c.args.self.now.frames.now c.in-Err.end (untouched_by g.D.Disk c.args.disk (g.met.D.Disk.only_now c.args.disk))
    c.in-Err.ensures.ended)

pub returns-in-Ok-clause-allowed : goal.returns-in-Ok-clause-allowed
returns-in-Ok-clause-allowed g c =
    let disk = disk_seen g.D.Disk c.args.disk c.follow_journal.result.disk in
    follow_on_disk (files_seen g.F.Files c.args.files.now c.read_frames.new.files) disk (known c.args.held) c.args.self.now.frames.now
    (frames_in c.in-Ok.bytes.items) c.in-Ok.ensures.read c.follow_journal.result.made
    (subst (λ (bs : List ℕ). IsFollowedOnJournal disk (known c.args.held) (frames_in bs) c.follow_journal.result.made)
    c.deref.ensures.value c.follow_journal.ensures.followed)
