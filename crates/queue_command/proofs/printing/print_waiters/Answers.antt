-- The line of one more session that waits is printed.
use Rattle.printer.proofs.Sequences.{prints_item}
use Rattle.queue_command.specs.Lines.{still_line}
use Rattle.queue_command.proofs.printing.print_waiters.Goals as goal

pub loop-waiter-preserved : goal.loop-waiter-preserved
loop-waiter-preserved g c =
    prints_item (still_line c.args.cell.now) c.args.waiters.now c.loop-waiter.waiter-index _ c.write_still.ensures c.loop-waiter-test.true
    c.loop-waiter.invariant c.line.ensures
