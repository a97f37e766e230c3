-- The words of a load are read as one.
use Rattle.std.proofs.Common.{sym, ◌∙◌}
use Rattle.step_text.proofs.LoadWords.{load_read}
use Rattle.step_text.proofs.loads.read_load.Goals as goal

pub returns-clause-step : goal.returns-clause-step
returns-clause-step c =
    let begins = c.in_ok-job.ensures in
    load_read c.args.cell.now c.type_of.ensures.fits c.args.text.now c.in_ok-after_load.field-0.now begins.0 c.in_ok-job.name.now
    c.in_ok-job.job c.in_ok-number.number c.in_ok-after_load.ensures begins.1 begins.2
    (sym c.type_of.ensures.number ∙ c.in_ok-number.was)
