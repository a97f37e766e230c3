-- What is read of a job alone is a step of each cell.
use Rattle.step_text.proofs.indexed_cell.IndexedCell.read.Goals as goal

pub returns-in-Some-read_job_step-clause-fits : goal.returns-in-Some-read_job_step-clause-fits
returns-in-Some-read_job_step-clause-fits c = c.in-Some-read_job_step.ensures.fits c.args.self.now
