-- The length, and then the steps.
use Rattle.std.proofs.Common.{ℕ, ◌∙◌, ap, sym}
use Rattle.record_text.specs.Lines.{line_of, plan_words}
use Rattle.printer.proofs.Sequences.{prints_first}
use Rattle.hybrid_command.proofs.printing.print_plan.Goals as goal

pub returns : goal.returns
returns g c =
    prints_first
    (c.plan_line.ensures ∙ ap (λ (n : ℕ). line_of (plan_words n)) (c.work_left.ensures.work ∙ sym c.work_left.ensures.plan.steps))
    c.line.ensures c.print_steps.ensures
