-- The line of one more step is printed.
use Rattle.std.proofs.Common.{refl, ap, map, ◌∙◌}
use Rattle.cell_base.specs.declared.cells.Cell.{Cell}
use Rattle.cell_base.specs.Plans.{plan_of}
use Rattle.record_printer.specs.Blocks.{step_line}
use Rattle.printer.proofs.Sequences.{prints_to_all, prints_to_next}
use Rattle.record_printer.proofs.records.print_steps.Goals as goal

pub loop-step-init : goal.loop-step-init
loop-step-init g c =
    let start = c.args.drainer.now in record {
      same = refl;
      printed = prints_to_all g.K.Sink c.args.out.now (map (step_line start.cell) (plan_of start.cell start.parts));
    }

pub loop-step-preserved : goal.loop-step-preserved
loop-step-preserved g c =
    let cell : Cell = c.args.drainer.now.cell in
    let same = c.in-Some.ensures.cell ∙ c.loop-step.invariant.same in
    record {
      same = same;
      printed = prints_to_next (ap (map (step_line cell)) c.in-Some.ensures.some)
          (c.write_step.ensures ∙ ap (λ (on : Cell). step_line on c.in-Some.step) (c.cell.ensures.cell ∙ same)) c.loop-step.invariant.printed
          c.line.ensures;
    }
