-- So many of the parts so far stand there.
use Rattle.std.proofs.Common.{◌≡◌, ◌≤◌, length, take}
use Rattle.look_commands.specs.Parts.{parts_on}
use Rattle.look_commands.proofs.locating.held_on.Given as goal

abbrev pub invariant-loop-part : goal.invariant-loop-part
invariant-loop-part l = record {
  held : l.held ≡ length (parts_on l.cell (take l.part-index l.parts) l.r.0);
  few : l.held ≤ l.part-index;
}
