-- Slots of jobs, each with the place where its part came last.
use Rattle.std.specs.Prelude.{◌≡◌, ℕ, ◌<◌, ◌≤◌, Some, Option, List, length, slice_index, nat_eq}
use Rattle.std.specs.Option.{option_map}
use Rattle.std.specs.Map.{lookup}
use Rattle.part_table.specs.declared.chain.TheConstants.{NOWHERE}

-- what a contract sees of slots: the slot of each job, the place of each slot, and how many slots there may be
pub record SlotTable : Type 0 where
  pub slots : List (ℕ × ℕ)
  pub places : List ℕ
  pub room : ℕ

-- the slot of a job
abbrev pub slot_of : SlotTable → ℕ → Option ℕ
slot_of slotted job = lookup (nat_eq job) slotted.slots

-- the place to which the part of a job came last
abbrev pub place_at : SlotTable → ℕ → Option ℕ
place_at slotted job = option_map (λ slot. slice_index slotted.places slot) (slot_of slotted job)

-- each job that is known has a slot of its own
pub record AreSlots (slotted : SlotTable) : Type 0 where
  pub known : (job slot : ℕ) → slot_of slotted job ≡ Some slot → slot < length slotted.places
  pub alone : (p q slot : ℕ) → slot_of slotted p ≡ Some slot → slot_of slotted q ≡ Some slot → p ≡ q
  pub few : length slotted.slots ≤ length slotted.places
  pub within : length slotted.places ≤ slotted.room
  pub small : slotted.room < NOWHERE
