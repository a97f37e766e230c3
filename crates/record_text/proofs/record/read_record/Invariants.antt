-- The blocks so far are those that were read.
use Rattle.std.proofs.Common.{◌≡◌, length}
use Rattle.record_text.specs.Remains.{IsReadTo}
use Rattle.record_text.proofs.record.read_record.Given as goal

abbrev pub invariant-loop-blocks : goal.invariant-loop-blocks
invariant-loop-blocks l = record {
  of : l.left.cell ≡ l.cell;
  read : IsReadTo l.left l.bytes l.blocks;
}

abbrev pub decreases-loop-blocks : goal.decreases-loop-blocks
decreases-loop-blocks l = length l.left.bytes
