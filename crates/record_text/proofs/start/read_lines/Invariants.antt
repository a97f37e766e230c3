-- What has been read of the bytes so far.
use Rattle.std.proofs.Common.{◌≡◌, ◌≤◌, [], length}
use Rattle.record_text.specs.BadLines.{pieces}
use Rattle.record_text.specs.StartLines.{read_from}
use Rattle.record_text.specs.declared.start.TheConstants.{MAX_START_LINES}
use Rattle.record_text.proofs.start.read_lines.Given as goal

abbrev pub invariant-loop-more : goal.invariant-loop-more
invariant-loop-more l = record {
  few : length l.found ≤ MAX_START_LINES;
  read : read_from l.cell l.found (pieces l.rest) ≡ read_from l.cell [] (pieces l.bytes);
}

abbrev pub decreases-loop-more : goal.decreases-loop-more
decreases-loop-more l = length l.rest
