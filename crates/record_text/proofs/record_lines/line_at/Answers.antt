-- The request of a line that is read fits the cell.
use Rattle.std.proofs.Common.{sym, ◌∙◌}
use Rattle.step_text.specs.Words.{words}
use Rattle.record_text.proofs.Turning.{entry_fits, step_read_fits}
use Rattle.record_text.proofs.record_lines.line_at.Goals as goal

pub returns-in-Some-clause-fits : goal.returns-in-Some-clause-fits
returns-in-Some-clause-fits c =
    entry_fits c.args.cell.now (words c.args.line.now) c.in-Some.entry (sym c.entry_at.ensures ∙ c.in-Some.is)

pub returns-in_ok-step-in-Steps-clause-fits : goal.returns-in_ok-step-in-Steps-clause-fits
returns-in_ok-step-in-Steps-clause-fits c =
    step_read_fits c.args.cell.now (words c.args.line.now) c.in_ok-step-in-Steps.step
    (sym c.step_at.ensures ∙ c.in_ok-step-in-Steps.was)
