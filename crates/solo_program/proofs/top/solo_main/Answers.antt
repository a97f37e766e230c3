-- The shift was played, or it was printed how the words are written.
use Rattle.cell_texts.proofs.Disks.{untouched}
use Rattle.solo_program.proofs.Promised.{command_promises, none_promises}
use Rattle.solo_program.proofs.top.solo_main.Goals as goal

pub returns-in-Some-clause-command : goal.returns-in-Some-clause-command
returns-in-Some-clause-command g c =
    command_promises _ _ c.run_solo.result.status c.reads_an_image.ensures _ _ _ c.in-Some.ensures.written c.run_solo.ensures.ends

pub returns-in-None-clause-none : goal.returns-in-None-clause-none
returns-in-None-clause-none g c none =
    none_promises _ _ c.print_usage.result c.reads_an_image.ensures
    (untouched g.D.Disk.reads_as g.D.Disk.may_leave g.D.Disk.moment g.D.Disk.left_since g.D.Disk.faults c.args.disk
    c.leaves_only_now.ensures)
    (rw c.usage.ensures at c.print_usage.ensures)
