-- The entries keep their parts, and those so far have a slot each.
use Rattle.std.proofs.Common.{◌≡◌, true, All, length, map, take}
use Rattle.part_table.specs.declared.standing.Entry.{Entry}
use Rattle.part_table.specs.Logs.{ArePlaces}
use Rattle.part_table.proofs.log.reassign_slots.Given as goal

abbrev pub invariant-loop-at : goal.invariant-loop-at
invariant-loop-at l = record {
  items : map (λ (entry : Entry). entry.item) l.chain.entries ≡ map (λ (entry : Entry). entry.item) l.initial.chain.entries;
  stay : All (λ (entry : Entry). entry.stays ≡ true) l.chain.entries;
  placed : ArePlaces (take l.at l.chain.entries) l.slots;
  capacity : l.chain.room ≡ l.initial.chain.room;
  resources : l.chain.resources ≡ l.initial.chain.resources;
  given : length l.slots.places ≡ l.at;
  room : l.slots.room ≡ l.initial.slots.room;
}
