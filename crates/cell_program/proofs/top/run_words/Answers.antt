-- The command of the words goes its walk, or the commands with their words are printed.
use Rattle.std.proofs.Common.{sym, ◌∙◌}
use Rattle.cell_texts.proofs.Disks.{untouched}
use Rattle.command_words.specs.Words.{task_in}
use Rattle.command_words.proofs.Calls.{ends_at_none}
use Rattle.cell_program.proofs.Promised.{ends_as}
use Rattle.cell_program.proofs.top.run_words.Goals as goal

pub returns-in-Some-clause-command : goal.returns-in-Some-clause-command
returns-in-Some-clause-command g c task so =
    ends_as _ _ c.run_command.result.status (task_in c.in-Some.command) task (c.in-Some.ensures.written ∙ sym so) c.run_command.ensures.ends

pub returns-in-Some-clause-same : goal.returns-in-Some-clause-same
returns-in-Some-clause-same g c none =
    c.run_command.ensures.same (none (task_in c.in-Some.command) c.in-Some.ensures.written)

pub returns-in-None-clause-none : goal.returns-in-None-clause-none
returns-in-None-clause-none g c none =
    ends_at_none _ _ c.print_usage.result
    (untouched g.D.Disk.reads_as g.D.Disk.may_leave g.D.Disk.moment g.D.Disk.left_since g.D.Disk.faults c.args.disk
    c.leaves_only_now.ensures)
    (rw c.usage.ensures at c.print_usage.ensures)
