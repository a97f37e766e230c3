-- One entry more has a place, or a new slot.
use Rattle.std.proofs.Common.{◌≡◌, ℕ, ◌+◌, ◌<◌, Bool, true, cond, List, [], ◌∷◌, ◌++◌, length}
use Rattle.std.proofs.Common.{map, All, Some, slice_get, get_or, set, take, ap, sym, subst, arith, ◌∙◌, nat_eq}
use Rattle.std.proofs.Math.Seq.{map-set_same}
use Rattle.std.proofs.lemmas.List.{length-map, take_more, take_more_set, length-take-le}
use Rattle.std.proofs.lemmas.List.Elements.{All-set}
use Rattle.std.proofs.lemmas.Option.{get_or_from_slice_get, slice_get_within}
use Rattle.cell_base.specs.Policy.{HaveDistinctJobs}
use Rattle.part_table.specs.declared.standing.Entry.{Entry}
use Rattle.part_table.specs.declared.standing.Standing.{Standing}
use Rattle.part_table.specs.Slots.{SlotTable, place_at, slot_of}
use Rattle.part_table.specs.Standings.{parts_of}
use Rattle.part_table.specs.Logs.{ArePlaces, HaveSlots, with_slot}
use Rattle.part_table.proofs.Logs.{places_pushed}
use Rattle.part_table.proofs.Places.{get_in_take, known_pushed}
use Rattle.part_table.proofs.Staying.{absent_before, parts_of_entries}

-- one entry more has its place
pub placed_more : (entries : List Entry) (i : ℕ) (last : Entry) (slots next : SlotTable) → slice_get entries i ≡ Some last
    → All (λ (entry : Entry). entry.stays ≡ true) entries → HaveDistinctJobs (map (λ (entry : Entry). entry.item.part) entries)
    → HaveSlots entries next → ArePlaces (take i entries) slots
    → ((q : ℕ) → place_at next q ≡ cond (nat_eq last.item.part.job.0 q) (Some i) (place_at slots q))
    → ArePlaces (take (i + 1) entries) next
placed_more entries i last slots next there stay distinct slotted are noted =
    let inside : i < length entries = slice_get_within entries i last there in
    let read = get_or_from_slice_get entries i last last there in
    let far : length (take i entries) ≡ i = length-take-le i entries (omega (arith, inside)) in
    let stays : last.stays ≡ true = ap (λ (e : Entry). e.stays) (sym read) ∙ stay i last inside in
    let is : (let e : Entry = record last { stays = true } in e) ≡ last =
    ap (λ (b : Bool). let e : Entry = record last { stays = b } in e) (sym stays) in
    let more = take_more entries i last inside ∙ ap (λ (e : Entry). take i entries ++ e ∷ []) (read ∙ sym is) in
    let first : HaveSlots (take (i + 1) entries) next = λ k entry e. slotted k entry (get_in_take entries (i + 1) k entry e) in
    rw more
    (places_pushed (take i entries) slots are last.item last.slot next (absent_before entries i last inside (sym read) distinct)
    (λ q. noted q ∙ ap (λ n. cond (nat_eq last.item.part.job.0 q) (Some n) (place_at slots q)) (sym far)) (rw more at first))

-- what holds after one entry more has a new slot
pub record AreReassigned (first entries : List Entry) (i : ℕ) (slots : SlotTable) : Type 0 where
  pub items : map (λ (entry : Entry). entry.item) entries ≡ map (λ (entry : Entry). entry.item) first
  pub stay : All (λ (entry : Entry). entry.stays ≡ true) entries
  pub placed : ArePlaces (take i entries) slots

-- as many entries as before
pub length_items : (first entries : List Entry) → map (λ (entry : Entry). entry.item) entries ≡ map (λ (entry : Entry). entry.item) first
    → length entries ≡ length first
length_items first entries same =
    sym (length-map entries (λ (entry : Entry). entry.item)) ∙ ap length same ∙ length-map first (λ (entry : Entry). entry.item)

-- the parts of entries with the same items
distinct_items : (first entries : List Entry) → map (λ (entry : Entry). entry.item) entries ≡ map (λ (entry : Entry). entry.item) first
    → HaveDistinctJobs (map (λ (entry : Entry). entry.item.part) first)
    → HaveDistinctJobs (map (λ (entry : Entry). entry.item.part) entries)
distinct_items first entries same distinct =
    subst HaveDistinctJobs
    (parts_of_entries first ∙ ap (λ (items : List Standing). parts_of items) (sym same) ∙ sym (parts_of_entries entries)) distinct

-- one entry more takes a slot
pub reassigned_more : (first entries : List Entry) (i : ℕ) (last : Entry) (slots next : SlotTable) (slot : ℕ) → i < length entries
    → last ≡ get_or entries i last
    → HaveDistinctJobs (map (λ (entry : Entry). entry.item.part) first)
    → map (λ (entry : Entry). entry.item) entries ≡ map (λ (entry : Entry). entry.item) first
    → All (λ (entry : Entry). entry.stays ≡ true) entries → ArePlaces (take i entries) slots
    → ((q : ℕ) → place_at next q ≡ cond (nat_eq last.item.part.job.0 q) (Some i) (place_at slots q))
    → ((q : ℕ) → slot_of next q ≡ cond (nat_eq last.item.part.job.0 q) (Some slot) (slot_of slots q))
    → AreReassigned first (set entries i (with_slot last slot)) (i + 1) next
reassigned_more first entries i last slots next slot inside read distinct items stay are placed slotted =
    let far : length (take i entries) ≡ i = length-take-le i entries (omega (arith, inside)) in
    let stays : last.stays ≡ true = ap (λ (e : Entry). e.stays) read ∙ stay i last inside in
    let is : (let e : Entry = record { item = last.item; stays = true; slot = slot } in e) ≡ with_slot last slot =
    ap (λ (b : Bool). let e : Entry = record { item = last.item; stays = b; slot = slot } in e) (sym stays) in
    let absent = absent_before entries i last inside read (distinct_items first entries items distinct) in
    let pushed : ArePlaces (take i entries ++ (record { item = last.item; stays = true; slot = slot }) ∷ []) next = record {
      placed = known_pushed (take i entries) (place_at slots) (place_at next) (λ k entry. k) are.placed last.item slot absent
          (λ q. placed q ∙ ap (λ n. cond (nat_eq last.item.part.job.0 q) (Some n) (place_at slots q)) (sym far));
      slotted = known_pushed (take i entries) (slot_of slots) (slot_of next) (λ k entry. entry.slot) are.slotted last.item slot absent
          slotted;
    } in
    record {
      items = map-set_same (λ (entry : Entry). entry.item) entries i (with_slot last slot) last (ap (λ (e : Entry). e.item) read) ∙ items;
      stay = All-set (λ (entry : Entry). entry.stays ≡ true) entries i (with_slot last slot) stays stay;
      placed = rw (take_more_set entries i (with_slot last slot) inside)
          (subst (λ (e : Entry). ArePlaces (take i entries ++ e ∷ []) next) is pushed);
    }
