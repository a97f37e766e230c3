-- The number of parts, and then the plan.
use Rattle.std.proofs.Common.{ℕ, ◌∙◌, ap}
use Rattle.admission_core.specs.CoreState.{CoreState}
use Rattle.cell_base.specs.Plans.{plan_of}
use Rattle.record_text.specs.Lines.{left_words, line_of}
use Rattle.record_printer.specs.Blocks.{plan_lines}
use Rattle.printer.proofs.Sequences.{prints_as, prints_first}
use Rattle.record_printer.proofs.records.print_left.Goals as goal

pub returns : goal.returns
returns g c =
    prints_first (c.left_line.ensures ∙ ap (λ (n : ℕ). line_of (left_words n)) c.parts_left.ensures) c.line.ensures
    (prints_as (ap (λ (core : CoreState). plan_lines core.cell (plan_of core.cell core.parts)) c.new.ensures) c.print_plan.ensures)
