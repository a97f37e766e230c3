-- The lines of the jobs so far are printed.
use Rattle.std.proofs.Common.{map, take}
use Rattle.printer.specs.Printing.{Prints}
use Rattle.cell_texts.specs.Texts.{job_line}
use Rattle.cell_commands.proofs.why.print_jobs.Given as goal

abbrev pub invariant-loop-job : goal.invariant-loop-job
invariant-loop-job g l = Prints g.K.Sink l.initial.out l.out (map job_line (take l.job-index l.jobs))
