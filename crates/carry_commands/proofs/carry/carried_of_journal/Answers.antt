-- The journal is not read, or its parts are not carried.
use Rattle.cell_walks.specs.DiskTold.{disk_told}
use Rattle.cell_texts.specs.Tests.{known}
use Rattle.journal_texts.specs.Tests.{to_read}
use Rattle.carry_commands.specs.Carrying.{Unopened}
use Rattle.carry_commands.proofs.CarryWalk.{ends_after}
use Rattle.carry_commands.proofs.carry.carried_of_journal.Goals as goal

pub returns-in-Ok-clause-ended : goal.returns-in-Ok-clause-ended
returns-in-Ok-clause-ended g c =
    ends_after (disk_told g.D.Disk.reads_as g.D.Disk.may_leave g.D.Disk.moment g.D.Disk.left_since g.D.Disk.faults c.args.disk
    c.read_journal-made.result.disk)
    (to_read (known c.args.held)) c.args.new c.in-Ok.after (rw c.in-Ok.is at c.read_journal-made.ensures.read) c.carry_parts.result
    c.carry_parts.ensures.ended

pub returns-in-Err-clause-ended : goal.returns-in-Err-clause-ended
returns-in-Err-clause-ended g c =
    rw (c.ended.ensures.made, c.ended.ensures.disk)
    (Unopened (rw c.in-Err.is at c.read_journal-made.ensures.ended))
