-- The number of parts, and then the plan.
use Rattle.std.proofs.Common.{ℕ, ◌∙◌, ap}
use Rattle.record_text.specs.Lines.{left_words, line_of}
use Rattle.printer.proofs.Sequences.{prints_first}
use Rattle.hybrid_command.proofs.printing.print_left.Goals as goal

pub returns : goal.returns
returns g c =
    prints_first (c.left_line.ensures ∙ ap (λ (n : ℕ). line_of (left_words n)) c.parts_left.ensures) c.line.ensures c.print_plan.ensures
