-- The line of one more job is printed.
use Rattle.cell_texts.specs.Texts.{job_line}
use Rattle.printer.proofs.Sequences.{prints_item}
use Rattle.cell_commands.proofs.why.print_jobs.Goals as goal

pub loop-job-preserved : goal.loop-job-preserved
loop-job-preserved g c =
    prints_item job_line c.args.jobs.now c.loop-job.job-index _ c.job_line.ensures c.loop-job-test.true c.loop-job.invariant c.line.ensures
