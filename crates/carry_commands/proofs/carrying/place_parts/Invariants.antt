-- Each part so far was placed.
use Rattle.std.proofs.Common.{◌≡◌, ◌≤◌, drop, length}
use Rattle.std.specs.List.{All}
use Rattle.record_text.specs.StartFiles.{IsPlacing}
use Rattle.carry_commands.specs.Carried.{carried, carried_after}
use Rattle.carry_commands.proofs.CarriedParts.{behind}
use Rattle.carry_commands.proofs.carrying.place_parts.Given as goal

abbrev pub invariant-loop-part : goal.invariant-loop-part
invariant-loop-part l = record {
  cell : l.core.cell ≡ l.initial.core.cell;
  so_far : carried l.old.cell l.initial.core.cell l.old.parts
      ≡ behind l.requests (carried_after l.old.cell l.core.cell l.core.parts (drop l.part-index l.parts));
  placing : All (IsPlacing l.initial.core.cell) l.requests;
  count : length l.requests ≡ l.part-index;
  within : l.part-index ≤ length l.parts;
}
