-- The journal is read and the parts are listed, or the command ends there.
use Rattle.cell_walks.specs.DiskTold.{disk_seen}
use Rattle.cell_walks.specs.Observed.{files_seen}
use Rattle.cell_texts.specs.Tests.{known}
use Rattle.look_commands.proofs.Standing.{parts_made, parts_unread}
use Rattle.look_commands.proofs.parts.PartsCommand.answer.Goals as goal

pub returns-in-Ok-clause-allowed : goal.returns-in-Ok-clause-allowed
returns-in-Ok-clause-allowed g c =
    parts_made (files_seen g.F.Files c.args._files.now c.args._files.now) (disk_seen g.D.Disk c.args.disk c.read_journal-made.result.disk)
    (known c.args.held) c.in-Ok.after c.read_journal-made.ensures.only_read (rw c.in-Ok.is at c.read_journal-made.ensures.read)
    c.parts_of_core.result c.parts_of_core.ensures.core c.parts_of_core.ensures.starved

pub returns-in-Err-clause-allowed : goal.returns-in-Err-clause-allowed
returns-in-Err-clause-allowed g c =
    rw (c.ended.ensures.made, c.ended.ensures.disk)
    (parts_unread (files_seen g.F.Files c.args._files.now c.args._files.now) (disk_seen g.D.Disk c.args.disk c.read_journal-made.result.disk)
    (known c.args.held) c.in-Err.end (rw c.in-Err.is at c.read_journal-made.ensures.ended))
