-- The lines of the steps that are left are still to be printed.
use Rattle.std.proofs.Common.{◌≡◌, map}
use Rattle.cell_base.specs.Plans.{work}
use Rattle.banker_check.specs.HybridPlans.{plan_h_of}
use Rattle.record_printer.specs.Blocks.{step_line}
use Rattle.printer.proofs.Sequences.{PrintsTo}
use Rattle.hybrid_command.proofs.printing.print_steps.Given as goal

abbrev pub invariant-loop-step : goal.invariant-loop-step
invariant-loop-step g l = record {
  same : l.hybrid.cell ≡ l.initial.hybrid.cell;
  printed : PrintsTo g.K.Sink l.initial.out l.out
      (map (step_line l.initial.hybrid.cell) (plan_h_of l.initial.hybrid.cell l.initial.hybrid.parts))
      (map (step_line l.initial.hybrid.cell) (plan_h_of l.hybrid.cell l.hybrid.parts));
}

abbrev pub decreases-loop-step : goal.decreases-loop-step
decreases-loop-step g l = work l.hybrid.cell l.hybrid.parts
