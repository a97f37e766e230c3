-- What a durable cell keeps with one entry more.
use Rattle.std.specs.Prelude.{Option, Some, None, is_some, Result, Err, Bool, true, false, cond, slice_index_or}
use Rattle.std.specs.Option.{option_map}
use Rattle.std.proofs.Common.{◌≡◌, ◌⊎◌, inl, inr, ℕ, ◌+◌, ◌-◌, ◌<◌, ◌≤◌, List, [], ◌∷◌, ◌++◌, length, length-append, map}
use Rattle.std.proofs.Common.{refl, sym, ◌∙◌, ap, subst, arith}
use Rattle.std.proofs.lemmas.List.{map-append, length_push}
use Rattle.std.proofs.lemmas.List.Elements.{filter-append}
use Rattle.atomic_table.specs.declared.badge.Badge.{Badge}
use Rattle.cell_base.specs.declared.requests.Part.{Part}
use Rattle.cell_base.specs.declared.shifts.Entry.{Entry}
use Rattle.cell_base.specs.declared.shifts.Grant.{Grant}
use Rattle.cell_base.specs.declared.requests.Reply.TheVariants.{Granted}
use Rattle.cell_base.specs.declared.requests.Request.{Request}
use Rattle.cell_base.specs.Outcomes.{reply_to}
use Rattle.cell_base.specs.Histories.{was_granted, state_after_entry, IsToldRightly, granted_entries, grants}
use Rattle.admission_core.specs.CoreState.{CoreState}
use Rattle.move_journal.specs.Kept.{JournalState}
use Rattle.move_journal.specs.declared.journal.AppendFault.{AppendFault}
use Rattle.move_journal.specs.declared.journal.AppendFault.TheVariants.{Halted, Device}
use Rattle.cell_base.proofs.Histories.{after-push}
use Rattle.durable_cell.specs.Asked.{is_halt, halted_at, halted_in, grant_of, unsure_grant, with_entry, GoesOn}
use Rattle.durable_cell.specs.DurableState.{DurableState, first_parts, parts, marked, seen}
use Rattle.durable_cell.specs.Kept.{KeepsHistory, KeepsParts, asked_by, asked_in}
use Rattle.durable_cell.proofs.Halts.{legal-push, halted_in-push, halted_at-none, halted_at-last}
use Rattle.durable_cell.proofs.Halts.{halted_has_entry, beside_none, beside_some}

-- the grants of one entry ask what it asked
grants_of_one : (shift : ℕ) (entry : Entry) → map asked_by (grants shift (entry ∷ [])) ≡ map asked_in (granted_entries (entry ∷ []))
grants_of_one shift entry = by_test (was_granted entry.told)
  where
    by_test : (granted : Bool) → map asked_by (map (grant_of shift) (cond granted (entry ∷ []) []))
        ≡ map asked_in (cond granted (entry ∷ []) [])
    by_test true = refl
    by_test false = refl

-- and so does its halt
unsure_of_one : (shift : ℕ) (entry : Entry) → option_map asked_by (unsure_grant shift (entry ∷ []))
    ≡ option_map asked_in (halted_in (entry ∷ []))
unsure_of_one shift entry = by_test (is_halt entry)
  where
    by_test : (halt : Bool) → option_map asked_by (option_map (grant_of shift) (cond halt (Some entry) None))
        ≡ option_map asked_in (cond halt (Some entry) None)
    by_test true = refl
    by_test false = refl

pub keeps_history : {D : Type 0} (durable : DurableState D) (disk : D) (shift : ℕ) (entry : Entry) → KeepsHistory durable
    → durable.unsure ≡ None
    → length durable.history < durable.limit → IsToldRightly durable.cell (parts durable) entry.request entry.told []
    → KeepsHistory (with_entry durable disk shift entry)
keeps_history durable disk shift entry keeps none room right =
    let no_halt : halted_in durable.history ≡ None = beside_none asked_by asked_in durable.unsure
    (halted_in durable.history) keeps.unsure none in
    record {
      fits = keeps.fits;
      due = keeps.due;
      legal = legal-push durable.cell (first_parts durable) durable.history entry keeps.legal no_halt right;
      added = map-append asked_by durable.added (grants shift (entry ∷ []))
          ∙ (λ i. keeps.added i ++ grants_of_one shift entry i)
          ∙ sym (map-append asked_in (granted_entries durable.history) (granted_entries (entry ∷ [])))
          ∙ ap (map asked_in) (sym (filter-append (λ (e : Entry). was_granted e.told) durable.history (entry ∷ [])));
      unsure = unsure_of_one shift entry ∙ ap (option_map asked_in) (sym (halted_in-push durable.history entry no_halt));
      within = omega (arith, room, length_push durable.history entry);
    }

pub keeps_parts : {D : Type 0} (durable : DurableState D) (shift : ℕ) (entry : Entry) (first second : Badge D) (core new_core : CoreState)
    (journal new_journal : JournalState D) (history_spare added_spare new_history_spare new_added_spare : ℕ)
    → KeepsParts durable first second core journal history_spare added_spare
    → new_core ≡ record { cell = durable.cell; parts = state_after_entry durable.cell (parts durable) entry.request entry.told }
    → (unsure_grant shift (entry ∷ []) ≡ None → new_journal.is_halted ≡ false) → new_journal.len ≤ journal.len + 1
    → new_journal.len ≡ journal.len + length (grants shift (entry ∷ []))
    → new_history_spare + 1 ≡ history_spare → added_spare ≤ new_added_spare + 1
    → KeepsParts (with_entry durable new_journal.disk shift entry) first second new_core new_journal new_history_spare new_added_spare
keeps_parts durable shift entry first second core new_core journal new_journal history_spare added_spare new_history_spare
    new_added_spare keeps core_is runs len count history_room added_room =
    let more : length (durable.history ++ entry ∷ []) ≡ length durable.history + 1 = length_push durable.history entry in
    record {
      first = keeps.first;
      second = keeps.second;
      state = core_is ∙ ap (λ ps. state_of ps) (sym (after-push durable.cell (first_parts durable) durable.history entry));
      runs = runs;
      count = omega (arith, keeps.count, count, length-append durable.added (grants shift (entry ∷ [])));
      few = omega (arith, keeps.few, more, len);
      history_room = omega (arith, keeps.history_room, more, history_room);
      added_room = omega (arith, keeps.added_room, more, added_room);
    }
  where
    state_of : List Part → CoreState
    state_of ps = record { cell = durable.cell; parts = ps }

-- a badge has the disk of which it was taken, whatever the journal's is
pub kept_is : {D : Type 0} (badge : Badge D) (disk other : D) → badge.views ≡ disk ∷ [] → marked badge other ≡ disk
kept_is badge disk other is = ap (λ (views : List _). slice_index_or views 0 other) is

pub seen_more : {D : Type 0} (first second : Badge D) (entry_disk found : D) (core new_core : CoreState) (text : List ℕ)
    (journal new_journal : JournalState D) (opening : List Grant) (history new_history : List Entry) (added new_added : List Grant)
    (unsure new_unsure : Option Grant) (limit shift : ℕ) (entry : Entry) → first.views ≡ entry_disk ∷ [] → second.views ≡ found ∷ []
    → new_core.cell ≡ core.cell → new_history ≡ history ++ entry ∷ []
    → new_added ≡ added ++ grants shift (entry ∷ []) → new_unsure ≡ unsure_grant shift (entry ∷ [])
    → seen first second new_core text new_journal opening new_history new_added new_unsure limit
    ≡ with_entry (seen first second core text journal opening history added unsure limit) new_journal.disk shift entry
seen_more first second entry_disk found core new_core text journal new_journal opening history new_history added new_added unsure
    new_unsure limit shift entry first_is second_is cell_is history_is added_is unsure_is = λ i. record {
      cell = cell_is i;
      text = text;
      entry = (kept_is first entry_disk new_journal.disk first_is ∙ sym (kept_is first entry_disk journal.disk first_is)) i;
      found = (kept_is second found new_journal.disk second_is ∙ sym (kept_is second found journal.disk second_is)) i;
      disk = new_journal.disk;
      opening = opening;
      history = history_is i;
      added = added_is i;
      unsure = unsure_is i;
      limit = limit;
    }

-- where the history holds no halt no writing has failed
none_unsure : {D : Type 0} (durable : DurableState D) → KeepsHistory durable → halted_at durable.history ≡ None → durable.unsure ≡ None
none_unsure durable keeps no_halt = by_case (beside_some asked_by asked_in durable.unsure (halted_in durable.history) keeps.unsure)
  where
    by_case : (durable.unsure ≡ None) ⊎ ((y : Entry) × (halted_in durable.history ≡ Some y)) → durable.unsure ≡ None
    by_case (inl none) = none
    by_case (inr halt) =
        let last = halted_at-last durable.cell (first_parts durable) durable.history halt.0 (length durable.history - 1)
        (halted_has_entry durable.history halt.0 halt.1) keeps.legal halt.1 in
        absurd (cc)

-- no writing has failed, there is room, and the request is granted
pub record GrantsNext {D : Type 0} (durable : DurableState D) (request : Request) : Type 0 where
  pub none : durable.unsure ≡ None
  pub room : length durable.history < durable.limit
  pub right : reply_to durable.cell (parts durable) request ≡ Granted

-- what a caller knows of the cell that he sees
pub goes_before : {D : Type 0} (durable now : DurableState D) (request : Request) → KeepsHistory durable → durable ≡ now → GoesOn now
    → reply_to now.cell (parts now) request ≡ Granted → GrantsNext durable request
goes_before durable now request keeps same goes granted = record {
  none = none_unsure durable keeps (subst (λ (d : DurableState _). halted_at d.history ≡ None) (sym same) goes.no_halt);
  room = subst (λ (d : DurableState _). length d.history < d.limit) (sym same) goes.has_room;
  right = subst (λ (d : DurableState _). reply_to d.cell (parts d) request ≡ Granted) (sym same) granted;
}

abbrev err : AppendFault → Result (Unit {0}) AppendFault
err fault = Err fault

-- an append of a journal that runs fails by the device alone
pub device_alone : (fault : AppendFault) (halted : Bool) → ((after : ℕ) → err fault ≡ err (Halted after) → halted ≡ true) → halted ≡ false
    → err fault ≡ err Device
device_alone (Halted after) halted only runs = let yes = only after refl in absurd (cc)
device_alone Device halted only runs = refl

-- where a writing has failed, the last entry of the history is its halt
pub unsure_last : {D : Type 0} (durable : DurableState D) → KeepsHistory durable → is_some durable.unsure ≡ true
    → halted_at durable.history ≡ Some (length durable.history - 1)
unsure_last durable keeps there = by_case (beside_some asked_by asked_in durable.unsure (halted_in durable.history) keeps.unsure)
  where
    by_case : (durable.unsure ≡ None) ⊎ ((y : Entry) × (halted_in durable.history ≡ Some y))
        → halted_at durable.history ≡ Some (length durable.history - 1)
    by_case (inl none) = let not_there : is_some durable.unsure ≡ false = ap is_some none in absurd (cc)
    by_case (inr halt) = halted_at-last durable.cell (first_parts durable) durable.history halt.0 (length durable.history - 1)
        (halted_has_entry durable.history halt.0 halt.1) keeps.legal halt.1

pub none_by_test : (unsure : Option Grant) → is_some unsure ≡ false → unsure ≡ None
none_by_test None is = refl
none_by_test (Some grant) is = absurd (cc)

-- and where none has, the history holds no halt
pub no_halt_yet : {D : Type 0} (durable : DurableState D) → KeepsHistory durable → durable.unsure ≡ None → halted_at durable.history ≡ None
no_halt_yet durable keeps none =
    halted_at-none durable.history (beside_none asked_by asked_in durable.unsure (halted_in durable.history) keeps.unsure none)
