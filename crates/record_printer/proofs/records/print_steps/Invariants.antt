-- The lines of the steps that are left are still to be printed.
use Rattle.std.proofs.Common.{◌≡◌, map}
use Rattle.cell_base.specs.Plans.{plan_of, work}
use Rattle.printer.proofs.Sequences.{PrintsTo}
use Rattle.record_printer.specs.Blocks.{step_line}
use Rattle.record_printer.proofs.records.print_steps.Given as goal

abbrev pub invariant-loop-step : goal.invariant-loop-step
invariant-loop-step g l = record {
  same : l.drainer.cell ≡ l.initial.drainer.cell;
  printed : PrintsTo g.K.Sink l.initial.out l.out
      (map (step_line l.initial.drainer.cell) (plan_of l.initial.drainer.cell l.initial.drainer.parts))
      (map (step_line l.initial.drainer.cell) (plan_of l.drainer.cell l.drainer.parts));
}

abbrev pub decreases-loop-step : goal.decreases-loop-step
decreases-loop-step g l = work l.drainer.cell l.drainer.parts
