-- The parts of the entries so far are found, and the slots are the same.
use Rattle.std.proofs.Common.{◌≡◌, length, take}
use Rattle.part_table.specs.Logs.{ArePlaces}
use Rattle.part_table.proofs.log.place_again.Given as goal

abbrev pub invariant-loop-at : goal.invariant-loop-at
invariant-loop-at l = record {
  placed : ArePlaces (take l.at l.chain.entries) l.slots;
  same : l.slots.slots ≡ l.initial.slots.slots;
  given : length l.slots.places ≡ length l.initial.slots.places;
  slots : l.slots.room ≡ l.initial.slots.room;
}
