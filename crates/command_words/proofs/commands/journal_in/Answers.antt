-- The journal is that of the one command that the words are written as, or of what they serve.
use Rattle.std.proofs.Common.{Some, ap, sym, ◌∙◌}
use Rattle.command_words.specs.Words.{journal_of, served_journal, task_in}
use Rattle.command_words.proofs.Written.{no_task, one_journal, one_task}
use Rattle.command_words.proofs.commands.journal_in.Goals as goal

pub returns-in-Some-clause-journal : goal.returns-in-Some-clause-journal
returns-in-Some-clause-journal c task so =
    absurd (no_task c.in-Some.served.cell.now c.in-Some.served.journal.now task (so ∙ sym c.in-Some.ensures.written))

pub returns-in-Some-clause-served : goal.returns-in-Some-clause-served
returns-in-Some-clause-served c cell journal so =
    ap (λ (name : _). Some (served_journal name))
    (one_journal c.in-Some.served.cell.now c.in-Some.served.journal.now cell journal (c.in-Some.ensures.written ∙ sym so))

pub returns-in-Some-clause-none : goal.returns-in-Some-clause-none
returns-in-Some-clause-none c no_command no_serve =
    absurd (no_serve c.in-Some.served.cell.now c.in-Some.served.journal.now c.in-Some.ensures.written)

pub returns-in-Some-command_of-clause-journal : goal.returns-in-Some-command_of-clause-journal
returns-in-Some-command_of-clause-journal c task so =
    c.journal.ensures ∙ ap journal_of (one_task (task_in c.in-Some-command_of.command) task (c.in-Some-command_of.ensures.written ∙ sym so))
