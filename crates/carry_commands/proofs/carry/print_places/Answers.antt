-- The line of one more request is printed.
use Rattle.record_text.specs.StartFiles.{place_line}
use Rattle.printer.proofs.Sequences.{prints_item}
use Rattle.carry_commands.proofs.carry.print_places.Goals as goal

pub loop-request-preserved : goal.loop-request-preserved
loop-request-preserved g c =
    prints_item (place_line c.args.cell.now) c.args.requests.now c.loop-request.request-index _ c.place_line.ensures
    c.loop-request-test.true c.loop-request.invariant c.line.ensures
