-- The length, and then the steps.
use Rattle.std.proofs.Common.{ℕ, ◌∙◌, ap}
use Rattle.record_text.specs.Lines.{line_of, plan_words}
use Rattle.printer.proofs.Sequences.{prints_first}
use Rattle.record_printer.proofs.records.print_plan.Goals as goal

pub returns : goal.returns
returns g c =
    prints_first (c.plan_line.ensures ∙ ap (λ (n : ℕ). line_of (plan_words n)) c.length.ensures.steps) c.line.ensures
    c.print_steps.ensures
