-- A part that goes on: its entry is gone, and one after all others is its own.
use Rattle.std.proofs.Common.{◌≡◌, ℕ, Bool, true, cond, List, [], ◌∷◌, ◌++◌, length}
use Rattle.std.proofs.Common.{Some, slice_get, set, ap, subst, sym, arith, ◌∙◌, nat_eq, length-set}
use Rattle.std.specs.Map.{lookup}
use Rattle.std.proofs.lemmas.Option.{same_Some}
use Rattle.std.proofs.lemmas.List.{length_push}
use Rattle.cell_base.specs.declared.cells.ResId.{ResId}
use Rattle.cell_base.specs.declared.requests.JobId.{JobId}
use Rattle.cell_base.specs.Policy.{is_of_job, is_loaded, HaveDistinctJobs}
use Rattle.cell_base.specs.declared.requests.Part.{Part}
use Rattle.cell_base.specs.Outcomes.{part_of}
use Rattle.policy_laws.proofs.Lists.{list_any-found, find_some}
use Rattle.policy_laws.proofs.Parts.{part_of-found}
use Rattle.part_table.specs.declared.standing.Standing.{Standing}
use Rattle.part_table.specs.declared.standing.Entry.{Entry}
use Rattle.part_table.specs.Slots.{SlotTable, place_at, slot_of}
use Rattle.part_table.specs.Standings.{parts_of, without_job, advanced}
use Rattle.part_table.specs.Logs.{gone_entry, staying, IsAbsent, IsPlaceOf, ArePlaces}
use Rattle.part_table.proofs.Jobs.{part_at}
use Rattle.part_table.proofs.Logs.{places_pushed, places_gone}
use Rattle.part_table.proofs.Places.{known_again, known_pushed}
use Rattle.part_table.proofs.Standings.{absent_departed, advanced_is, distinct_arrived, distinct_departed, length_departed}
use Rattle.part_table.proofs.Staying.{staying_taken, staying_pushed, absent_from_not_loaded}

module _ (entries : List Entry) (job : JobId) (at : ℕ) (old : Entry) (place : ℕ) (done : Bool) (on : ResId)
    (there : slice_get entries at ≡ Some old) (is : IsPlaceOf entries job at) where
  -- the part at the end
  abbrev pub moved : Standing
  moved = record { part = record old.item.part { place = place; done = done }; on = on }

  same : is.0 ≡ old
  same = same_Some is.0 old (sym is.1 ∙ there)

  pub of_job : old.item.part.job.0 ≡ job.0
  of_job = sym (ap (λ (x : Entry). x.item.part.job.0) same) ∙ is.3

  stays_there : old.stays ≡ true
  stays_there = sym (ap (λ (x : Entry). x.stays) same) ∙ is.2

  left : staying (set entries at (gone_entry old)) ≡ without_job (staying entries) job
  left = staying_taken entries at old job there stays_there of_job is.4

  pub absent_left : IsAbsent (set entries at (gone_entry old)) job
  absent_left = absent_from_not_loaded (set entries at (gone_entry old)) job (rw left (absent_departed (staying entries) job))

  pub staying_advanced : staying (set entries at (gone_entry old) ++ (record { item = moved; stays = true; slot = old.slot }) ∷ [])
      ≡ advanced (staying entries) job place done on
  staying_advanced =
      staying_pushed (set entries at (gone_entry old)) moved old.slot
      ∙ ap (λ items. items ++ moved ∷ []) left
      ∙ sym (advanced_is (staying entries) job place done on old.item.part (sym (part_at entries job at old is there)))

  pub places_advanced : (slots next : SlotTable) → ArePlaces entries slots
      → ((q : ℕ) → place_at next q ≡ cond (nat_eq job.0 q) (Some (length entries)) (place_at slots q)) → next.slots ≡ slots.slots
      → ArePlaces (set entries at (gone_entry old) ++ (record { item = moved; stays = true; slot = old.slot }) ∷ []) next
  places_advanced slots next are noted same_slots =
      let left = set entries at (gone_entry old) in
      let gone = places_gone entries slots are at old there in
      let long : length (set entries at (gone_entry old)) ≡ length entries = length-set entries at (gone_entry old) in
      let absent : IsAbsent (set entries at (gone_entry old)) old.item.part.job =
      subst (IsAbsent (set entries at (gone_entry old))) (λ i. record { 0 = sym of_job i }) absent_left in
      places_pushed left slots gone moved old.slot next absent
      (λ q. noted q ∙ ap (λ n. cond (nat_eq n q) (Some (length entries)) (place_at slots q)) (sym of_job)
      ∙ ap (λ n. cond (nat_eq old.item.part.job.0 q) (Some n) (place_at slots q)) (sym long))
      (known_pushed left (slot_of slots) (slot_of next) (λ k entry. entry.slot) gone.slotted moved old.slot absent
      (known_again old.item.part.job.0 old.slot (slot_of slots) (slot_of next) (are.slotted at old there stays_there)
      (λ q. ap (λ (xs : List (ℕ × ℕ)). lookup (nat_eq q) xs) same_slots)))

-- a part that goes on is of its job, and as many are there
module _ (items : List Standing) (job : JobId) (place : ℕ) (done : Bool) (on : ResId) (distinct : HaveDistinctJobs (parts_of items))
    (present : is_loaded (parts_of items) job ≡ true) where
  found : (part : Part) × (part_of (parts_of items) job ≡ Some part)
  found = let any = list_any-found (is_of_job job) (parts_of items) present in find_some (is_of_job job) (parts_of items) any.0 any.1 any.2

  is_advanced : advanced items job place done on
      ≡ without_job items job ++ (record { part = record found.0 { place = place; done = done }; on = on }) ∷ []
  is_advanced = advanced_is items job place done on found.0 found.1

  pub distinct_advanced : HaveDistinctJobs (parts_of (advanced items job place done on))
  distinct_advanced =
      rw (is_advanced)
      (distinct_arrived (without_job items job) (record found.0 { place = place; done = done }) on (distinct_departed items job distinct)
      (rw (part_of-found (parts_of items) job found.0 found.1).1 (absent_departed items job)))

  pub length_advanced : length (advanced items job place done on) ≡ length items
  length_advanced =
      omega (
        arith,
        ap length is_advanced,
        length_push (without_job items job) (record { part = record found.0 { place = place; done = done }; on = on }),
        length_departed items job distinct present,
      )
