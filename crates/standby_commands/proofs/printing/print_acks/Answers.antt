-- The line of one more answer is printed.
use Rattle.printer.proofs.Sequences.{prints_item}
use Rattle.standby_commands.specs.Lines.{ack_line}
use Rattle.standby_commands.proofs.printing.print_acks.Goals as goal

pub loop-ack-preserved : goal.loop-ack-preserved
loop-ack-preserved g c =
    prints_item ack_line c.args.acks.now c.loop-ack.ack-index _ c.ack_line.ensures c.loop-ack-test.true c.loop-ack.invariant c.line.ensures
