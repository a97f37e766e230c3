-- Entries in the order in which they came, of which some are gone, and what finds them.
use Rattle.std.specs.Prelude.{Bool, false, ◌≡◌, ℕ, ◌<◌, ◌≤◌, true, Option, Some, List, length, map, slice_get}
use Rattle.std.specs.List.{filter, find}
use Rattle.cell_base.specs.declared.requests.JobId.{JobId}
use Rattle.part_table.specs.declared.standing.Standing.{Standing}
use Rattle.part_table.specs.declared.standing.Entry.{Entry}
use Rattle.cell_base.specs.Policy.{HaveDistinctJobs}
use Rattle.part_table.specs.Slots.{SlotTable, place_at, slot_of}
use Rattle.part_table.specs.Standings.{parts_of}

-- what a contract sees of a log: its entries, how many there may be, the number of resources, how many slots were given, and how many
-- there are
pub record Logged : Type 0 where
  pub entries : List Entry
  pub room : ℕ
  pub resources : ℕ
  pub given : ℕ
  pub slots : ℕ

-- the entry whose part does not stand there any more, and the one whose part is done
abbrev pub gone_entry : Entry → Entry
gone_entry entry = record entry { stays = false }

-- the same, done
abbrev pub done_entry : Entry → Entry
done_entry entry = record entry { item = record entry.item { part = record entry.item.part { done = true } } }

-- the same, with another slot
abbrev pub with_slot : Entry → ℕ → Entry
with_slot entry slot = record entry { slot = slot }

-- the parts of the entries that are not gone
abbrev pub staying : List Entry → List Standing
staying entries = map (λ entry. entry.item) (filter (λ entry. entry.stays) entries)

-- the number of the job of an entry
abbrev pub entry_job : Entry → ℕ
entry_job entry = entry.item.part.job.0

-- no entry that stays is of the job
abbrev pub IsAbsent : List Entry → JobId → Type 0
IsAbsent entries job = (k : ℕ) (entry : Entry) → slice_get entries k ≡ Some entry → entry.stays ≡ true → entry_job entry ≡ job.0 → ⊥

-- the entry at the place, and no other that stays, is of the job
abbrev pub IsPlaceOf : List Entry → JobId → ℕ → Type 0
IsPlaceOf entries job place =
    (found : Entry) × (slice_get entries place ≡ Some found) × (found.stays ≡ true) × (entry_job found ≡ job.0)
    × ((k : ℕ) (entry : Entry) → slice_get entries k ≡ Some entry → entry.stays ≡ true → entry_job entry ≡ job.0 → k ≡ place)

-- the entry at the place is that of the first part that passes the test
abbrev pub IsPlaceOfFirst : (Standing → Bool) → List Entry → ℕ → Type 0
IsPlaceOfFirst test entries place =
    (found : Entry) × (slice_get entries place ≡ Some found) × (find test (staying entries) ≡ Some found.item)
    × IsPlaceOf entries found.item.part.job place

-- what is known of the job of each entry that stays
abbrev pub IsKnown : List Entry → (ℕ → Option ℕ) → (ℕ → Entry → ℕ) → Type 0
IsKnown entries known value = (k : ℕ) (entry : Entry) → slice_get entries k ≡ Some entry → entry.stays ≡ true
    → known (entry_job entry) ≡ Some (value k entry)

-- the job of each entry that stays has the slot that the entry tells
abbrev pub HaveSlots : List Entry → SlotTable → Type 0
HaveSlots entries slots = IsKnown entries (slot_of slots) (λ k entry. entry.slot)

-- and that slot leads to the entry
pub record ArePlaces (entries : List Entry) (slots : SlotTable) : Type 0 where
  pub placed : IsKnown entries (place_at slots) (λ k entry. k)
  pub slotted : HaveSlots entries slots

-- a log whose parts are of different jobs, their number, and how many there may be. One entry more fits for a part that goes on, and
-- one slot more
pub record IsTable (log : Logged) (count room : ℕ) : Type 0 where
  pub distinct : HaveDistinctJobs (parts_of (staying log.entries))
  pub counted : count ≡ length (staying log.entries)
  pub within : count ≤ room
  pub fits : room < log.room
  pub slots : room < log.slots
