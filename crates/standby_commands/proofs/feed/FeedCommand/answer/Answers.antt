-- The journal is read, or the command ends there.
use Rattle.cell_walks.specs.DiskTold.{disk_seen}
use Rattle.cell_walks.specs.Observed.{files_seen}
use Rattle.cell_texts.specs.Tests.{known}
use Rattle.standby_commands.proofs.FeedWalk.{feed_ended, feed_made, is_within}
use Rattle.standby_commands.proofs.feed.FeedCommand.answer.Goals as goal

pub returns-in-Ok-clause-allowed : goal.returns-in-Ok-clause-allowed
returns-in-Ok-clause-allowed g c =
    feed_made (files_seen g.F.Files c.args._files.now c.args._files.now) (disk_seen g.D.Disk c.args.disk c.feed_of_journal-made.result.disk)
    (known c.args.held) c.args.self.now.first c.feed_of_journal-made.ensures.only_read c.in-Ok.feeder
    (rw c.in-Ok.is at c.feed_of_journal-made.ensures.fed)

pub returns-in-Ok-clause-whole : goal.returns-in-Ok-clause-whole
returns-in-Ok-clause-whole g c =
    let has = rw c.in-Ok.is at c.feed_of_journal-made.ensures.fed in
    is_within c.args.self.now.first c.in-Ok.feeder.grants has.enough

pub returns-in-Err-clause-allowed : goal.returns-in-Err-clause-allowed
returns-in-Err-clause-allowed g c =
    rw (c.ended.ensures.made, c.ended.ensures.disk)
    (feed_ended (files_seen g.F.Files c.args._files.now c.args._files.now)
    (disk_seen g.D.Disk c.args.disk c.feed_of_journal-made.result.disk) (known c.args.held) c.args.self.now.first
    c.feed_of_journal-made.ensures.only_read c.in-Err.end (rw c.in-Err.is at c.feed_of_journal-made.ensures.ended))
