-- The places of the jobs of a log, after an entry came or changed.
use Rattle.std.proofs.Common.{◌≡◌, ℕ, true, cond, List, [], ◌∷◌, ◌++◌, length, Some, slice_get, set, refl, nat_eq}
use Rattle.part_table.specs.declared.standing.Standing.{Standing}
use Rattle.part_table.specs.declared.standing.Entry.{Entry}
use Rattle.part_table.specs.Slots.{SlotTable, place_at, slot_of}
use Rattle.part_table.specs.Logs.{gone_entry, done_entry, entry_job, IsAbsent, HaveSlots, ArePlaces}
use Rattle.part_table.proofs.Places.{known_pushed, known_changed}

module _ (entries : List Entry) (slots : SlotTable) (are : ArePlaces entries slots) where
  pub places_pushed : (item : Standing) (slot : ℕ) (next : SlotTable) → IsAbsent entries item.part.job
      → ((q : ℕ) → place_at next q ≡ cond (nat_eq item.part.job.0 q) (Some (length entries)) (place_at slots q))
      → HaveSlots (entries ++ (record { item = item; stays = true; slot = slot }) ∷ []) next
      → ArePlaces (entries ++ (record { item = item; stays = true; slot = slot }) ∷ []) next
  places_pushed item slot next absent noted slotted = record {
    placed = known_pushed entries (place_at slots) (place_at next) (λ k entry. k) are.placed item slot absent noted;
    slotted = slotted;
  }

  places_changed : (i : ℕ) (old next : Entry) → slice_get entries i ≡ Some old → entry_job next ≡ entry_job old → next.slot ≡ old.slot
      → (next.stays ≡ true → old.stays ≡ true) → ArePlaces (set entries i next) slots
  places_changed i old next there job slot stays = record {
    placed = known_changed entries (place_at slots) (λ k entry. k) are.placed i old next there job stays refl;
    slotted = known_changed entries (slot_of slots) (λ k entry. entry.slot) are.slotted i old next there job stays slot;
  }

  -- an entry whose part does not stand there any more, and one whose part is done
  pub places_gone : (i : ℕ) (old : Entry) → slice_get entries i ≡ Some old → ArePlaces (set entries i (gone_entry old)) slots
  places_gone i old there = places_changed i old (gone_entry old) there refl refl (λ stays. absurd (cc stays))

  pub places_done : (i : ℕ) (old : Entry) → slice_get entries i ≡ Some old → ArePlaces (set entries i (done_entry old)) slots
  places_done i old there = places_changed i old (done_entry old) there refl refl (λ stays. stays)
