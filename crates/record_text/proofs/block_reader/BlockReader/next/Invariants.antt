-- What has been read of the next block so far.
use Rattle.std.proofs.Common.{◌≡◌, ◌+◌, ◌≤◌, ◌⊎◌, true, [], length}
use Rattle.cell_base.specs.Fits.{CellFits}
use Rattle.record_text.specs.declared.record.TheConstants.{MAX_RECORD_BYTES}
use Rattle.record_text.specs.Progress.{LacksStep, is_between}
use Rattle.record_text.proofs.Portions.{IsReadOn}
use Rattle.record_text.proofs.block_reader.BlockReader.next.Given as goal

abbrev pub invariant-loop-more : goal.invariant-loop-more
invariant-loop-more l = record {
  cell : l.self-inside.cell.now ≡ l.fn.self.cell;
  from : l.self-inside.number ≡ l.fn.self.number;
  bytes : l.self-inside.rest.now ≡ l.fn.self.bytes;
  fits : CellFits l.fn.self.cell;
  within : l.fn.self.number + length l.fn.self.bytes ≤ MAX_RECORD_BYTES + 1;
  stage : LacksStep l.stage;
  counted : l.number + length l.rest ≤ MAX_RECORD_BYTES + 1;
  unended : is_between l.stage ≡ true → (1 ≤ length l.rest) ⊎ (l.number ≤ 1);
  shorter : length l.rest ≤ length l.fn.self.bytes;
  read : IsReadOn l.fn.self.cell l.fn.self.number l.fn.self.bytes l.number ([], l.stage) l.rest;
}

abbrev pub decreases-loop-more : goal.decreases-loop-more
decreases-loop-more l = length l.rest
