-- The journal is not read, or its grants are fed, or they are too few.
use Rattle.cell_walks.specs.DiskTold.{disk_told}
use Rattle.cell_texts.specs.Tests.{known}
use Rattle.journal_texts.specs.Tests.{to_read}
use Rattle.standby_commands.specs.Feed.{Unopened}
use Rattle.standby_commands.proofs.FeedWalk.{ends_feeding, feeding}
use Rattle.standby_commands.proofs.feed.feed_of_journal.Goals as goal

pub returns-in-Ok-clause-fed : goal.returns-in-Ok-clause-fed
returns-in-Ok-clause-fed g c =
    let found = rw c.in-Ok.is at c.find_grants-made.ensures.found in
    feeding (disk_told g.D.Disk.reads_as g.D.Disk.may_leave g.D.Disk.moment g.D.Disk.left_since g.D.Disk.faults c.args.disk
    c.find_grants-made.result.disk) (to_read (known c.args.held)) c.args.first c.in-Ok.found.grants
    found.opened c.feeder_of.result c.feeder_of.ensures.fed

pub returns-in-Ok-clause-ended : goal.returns-in-Ok-clause-ended
returns-in-Ok-clause-ended g c =
    let found = rw c.in-Ok.is at c.find_grants-made.ensures.found in
    ends_feeding (disk_told g.D.Disk.reads_as g.D.Disk.may_leave g.D.Disk.moment g.D.Disk.left_since g.D.Disk.faults c.args.disk
    c.find_grants-made.result.disk) (to_read (known c.args.held)) c.args.first
    c.in-Ok.found.grants found.opened c.feeder_of.result c.feeder_of.ensures.ended

pub returns-in-Err-clause-ended : goal.returns-in-Err-clause-ended
returns-in-Err-clause-ended g c =
    rw (c.ended.ensures.made, c.ended.ensures.disk)
    (Unopened (rw c.in-Err.is at c.find_grants-made.ensures.ended))
