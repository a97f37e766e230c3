-- The reply, and then the jobs.
use Rattle.std.proofs.Common.{List, ◌∙◌, ap, map}
use Rattle.cell_base.specs.declared.cells.Cell.{Cell}
use Rattle.cell_base.specs.declared.requests.JobId.{JobId}
use Rattle.cell_texts.specs.Texts.{job_line}
use Rattle.printer.proofs.Sequences.{prints_as, prints_first}
use Rattle.cell_commands.specs.Why.{reply_line}
use Rattle.cell_commands.proofs.why.print_answer.Goals as goal

pub returns : goal.returns
returns g c =
    prints_first (c.reply_line.ensures ∙ ap (λ (cell : Cell). reply_line cell c.args.answer.now.reply) c.cell.ensures.cell) c.line.ensures
    (prints_as (ap (λ (jobs : List JobId). map job_line jobs) c.as_slice.ensures) c.print_jobs.ensures)
