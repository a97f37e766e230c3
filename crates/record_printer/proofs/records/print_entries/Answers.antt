-- The line of one more entry is printed; after the last one all are.
use Rattle.record_printer.specs.Blocks.{entry_line}
use Rattle.printer.proofs.Sequences.{prints_item}
use Rattle.record_printer.proofs.records.print_entries.Goals as goal

pub loop-entry-preserved : goal.loop-entry-preserved
loop-entry-preserved g c =
    prints_item (entry_line c.args.cell.now) c.args.entries.now c.loop-entry.entry-index _ c.write_entry.ensures c.loop-entry-test.true
    c.loop-entry.invariant c.line.ensures
