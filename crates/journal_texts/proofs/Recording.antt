-- The record of a durable cell in which everything was asked under one number.
use Rattle.std.specs.Prelude.{Some, None}
use Rattle.std.specs.Option.{option_map, option_to_list}
use Rattle.std.specs.List.{concat}
use Rattle.std.proofs.Common.{◌≡◌, inl, inr, ℕ, true, false, List, [], length, All, Option, refl, sym, ap, ◌∙◌, subst}
use Rattle.std.proofs.lemmas.Bool.{true≢false}
use Rattle.admission_core.specs.CoreState.{CoreState}
use Rattle.cell_base.specs.declared.cells.Cell.{Cell}
use Rattle.cell_base.specs.declared.shifts.Entry.{Entry}
use Rattle.cell_base.specs.declared.shifts.Grant.{Grant}
use Rattle.cell_base.specs.Histories.{grants}
use Rattle.cell_base.specs.Plans.{plan_of}
use Rattle.cell_base.specs.Policy.{IsAdmitted}
use Rattle.cell_base.specs.Scripts.{holds_halt}
use Rattle.admission_core.proofs.DecidedHistories.{are_decided}
use Rattle.policy_laws.proofs.Plans.{plan_law}
use Rattle.durable_cell.specs.Asked.{grant_of, halted_in, unsure_grant}
use Rattle.durable_cell.specs.DurableState.{DurableState, first_parts, parts}
use Rattle.durable_cell.specs.Kept.{KeepsHistory}
use Rattle.record_text.specs.Fitting.{EntryFits}
use Rattle.record_printer.specs.Blocks.{block_of, history_lines}
use Rattle.record_printer.proofs.BlockTexts.{halted_text, planned_text}
use Rattle.cell_walks.specs.Allowed.{StandsForAdded}
use Rattle.cell_walks.specs.DiskTold.{DiskTold}
use Rattle.cell_walks.specs.Outcomes.{Outcome}
use Rattle.cell_walks.specs.declared.status.Status.TheVariants.{Done, DeviceFault}
use Rattle.journal_texts.specs.Recorded.{IsAskedUnder, IsHaltedIn, IsUnhaltedIn, recorded_outcome}
use Rattle.journal_texts.specs.Records.{IsAsked, IsHalted, IsRecordedOrHalted}
use Rattle.journal_texts.specs.declared.recorded.Asked.{Asked}
use Rattle.journal_texts.specs.declared.recorded.Recorded.TheVariants.{Whole, Halted}
use Rattle.record_printer.proofs.Fitting.{admitted_after, entries_fit}
use Rattle.journal_texts.proofs.Replays.{replay_admitted}
use Rattle.journal_texts.proofs.HaltedHistories.{ends_in_halt, none_halted, unhalted}

module _ {D : Type 0} (number : ℕ) (durable : DurableState D) (kept : KeepsHistory durable) (under : IsAskedUnder number durable)
    (core : CoreState) (after : ℕ) (history : List Entry) (core_is : core ≡ record { cell = durable.cell; parts = parts durable })
    (after_is : after ≡ length durable.opening) (history_is : history ≡ durable.history) where
  -- what was taken of the durable cell
  abbrev asked : Asked
  asked = record { core = core; number = number; after = after; history = history }

  first_admitted : IsAdmitted durable.cell (first_parts durable)
  first_admitted = replay_admitted durable.cell kept.fits durable.opening kept.due

  left_admitted : IsAdmitted durable.cell (parts durable)
  left_admitted = admitted_after durable.cell kept.fits (first_parts durable) durable.history first_admitted under.requests

  -- its entries fit
  pub taken_fit : All (EntryFits core.cell) history
  taken_fit =
      let all : All (EntryFits durable.cell) durable.history =
      entries_fit durable.cell kept.fits (first_parts durable) durable.history first_admitted kept.legal under.requests in
      subst (λ (c : CoreState). All (EntryFits c.cell) history) (sym core_is)
      (subst (λ (entries : List Entry). All (EntryFits durable.cell) entries) (sym history_is) all)

  was_asked : (Goes : List Entry → Type 0) → Goes durable.history → IsAsked durable.cell durable.opening Goes durable.history
  was_asked Goes goes = record {
    fits = kept.fits;
    legal = kept.legal;
    decided = are_decided durable.cell kept.fits (first_parts durable) durable.history first_admitted kept.legal under.requests;
    admitted = left_admitted;
    goes = goes;
  }

  added_is : durable.added ≡ grants number history
  added_is = under.added ∙ sym (λ i. grants number (history_is i))

  unsure_is : durable.unsure ≡ unsure_grant number history
  unsure_is = under.unsure ∙ sym (λ i. unsure_grant number (history_is i))

  -- ---- no writing failed

  module _ (no_halt : holds_halt durable.history ≡ false) where
    whole_outcome : recorded_outcome (Whole asked) ≡ record {
      status = Done;
      pieces = block_of (record { cell = durable.cell; parts = parts durable }) number (length durable.opening) durable.history;
      added = grants number durable.history;
      unsure = [];
    }
    whole_outcome = λ i. record {
      status = Done;
      pieces = block_of (core_is i) number (after_is i) (history_is i);
      added = grants number (history_is i);
      unsure = [];
    }

    pub whole_record : IsRecordedOrHalted durable.cell number durable.opening (IsUnhaltedIn durable) (IsHaltedIn durable)
        (recorded_outcome (Whole asked))
    whole_record = inl (record {
      history = durable.history;
      asked = was_asked (IsUnhaltedIn durable) (refl, no_halt);
      drains = (plan_law durable.cell kept.fits (parts durable) left_admitted).drains;
      is = whole_outcome;
      text = ap (λ (o : Outcome). concat o.pieces) whole_outcome
          ∙ planned_text durable.cell (first_parts durable) number (length durable.opening) durable.history
          (plan_of durable.cell (parts durable)) no_halt;
    })

    -- the disk stands for the grants of the record
    pub whole_stands : (disk : DiskTold) → StandsForAdded disk durable.text durable.opening durable.added (option_to_list durable.unsure)
        → StandsForAdded disk durable.text durable.opening (grants number history) []
    whole_stands disk stands =
        let none : durable.unsure ≡ None =
        under.unsure ∙ ap (λ (o : Option Entry). option_map (grant_of number) o) (none_halted durable.history no_halt) in
        subst (λ (unsure : Option Grant). StandsForAdded disk durable.text durable.opening (grants number history)
        (option_to_list unsure)) none
        (subst (λ (added : List Grant). StandsForAdded disk durable.text durable.opening added (option_to_list durable.unsure))
        added_is stands)

  -- ---- one did

  module _ (halt : holds_halt durable.history ≡ true) where
    halted_outcome : recorded_outcome (Halted asked) ≡ record {
      status = DeviceFault;
      pieces = history_lines durable.cell number (length durable.opening) durable.history;
      added = grants number durable.history;
      unsure = option_to_list (unsure_grant number durable.history);
    }
    halted_outcome = λ i. record {
      status = DeviceFault;
      pieces = history_lines (core_is i).cell number (after_is i) (history_is i);
      added = grants number (history_is i);
      unsure = option_to_list (unsure_grant number (history_is i));
    }

    halted_at : (last : Entry) → halted_in durable.history ≡ Some last
        → IsHalted durable.cell number durable.opening (IsHaltedIn durable) (recorded_outcome (Halted asked))
    halted_at last found =
        let ends = ends_in_halt durable.cell (first_parts durable) durable.history last kept.legal found in
        record {
          history = durable.history;
          first = ends.first;
          last = last;
          parted = ends.parted;
          halted = ends.halted;
          asked = was_asked (IsHaltedIn durable) (refl, halt);
          is = halted_outcome ∙ (λ i. record {
            status = DeviceFault;
            pieces = history_lines durable.cell number (length durable.opening) durable.history;
            added = grants number durable.history;
            unsure = option_to_list (option_map (grant_of number) (found i));
          });
          text = ap (λ (o : Outcome). concat o.pieces) halted_outcome
              ∙ halted_text durable.cell (first_parts durable) number (length durable.opening) durable.history [] halt;
        }

    pub halted_record : IsRecordedOrHalted durable.cell number durable.opening (IsUnhaltedIn durable) (IsHaltedIn durable)
        (recorded_outcome (Halted asked))
    halted_record = by_found (halted_in durable.history) refl
      where
        by_found : (found : Option Entry) → halted_in durable.history ≡ found
            → IsRecordedOrHalted durable.cell number durable.opening (IsUnhaltedIn durable) (IsHaltedIn durable)
            (recorded_outcome (Halted asked))
        by_found None none = absurd (true≢false (sym halt ∙ unhalted durable.history none))
        by_found (Some last) found = inr (halted_at last found)

    pub halted_stands : (disk : DiskTold) → StandsForAdded disk durable.text durable.opening durable.added (option_to_list durable.unsure)
        → StandsForAdded disk durable.text durable.opening (grants number history) (option_to_list (unsure_grant number history))
    halted_stands disk stands =
        subst (λ (unsure : Option Grant). StandsForAdded disk durable.text durable.opening (grants number history) (option_to_list unsure))
        unsure_is
        (subst (λ (added : List Grant). StandsForAdded disk durable.text durable.opening added (option_to_list durable.unsure))
        added_is stands)

-- a history that goes in one way goes in another
asked_so : (cell : Cell) (opening : List Grant) (G G' : List Entry → Type 0) (history : List Entry) → (G history → G' history)
    → IsAsked cell opening G history → IsAsked cell opening G' history
asked_so cell opening G G' history so asked = record {
  fits = asked.fits;
  legal = asked.legal;
  decided = asked.decided;
  admitted = asked.admitted;
  goes = so asked.goes;
}

-- a record of one kind of history is one of another
pub recorded_so : (cell : Cell) (number : ℕ) (opening : List Grant) (W W' P P' : List Entry → Type 0)
    → ((history : List Entry) → W history → W' history) → ((history : List Entry) → P history → P' history)
    → (outcome : Outcome) → IsRecordedOrHalted cell number opening W P outcome
    → IsRecordedOrHalted cell number opening W' P' outcome
recorded_so cell number opening W W' P P' whole part outcome (inl is) = inl (record {
  history = is.history;
  asked = asked_so cell opening W W' is.history (whole is.history) is.asked;
  drains = is.drains;
  is = is.is;
  text = is.text;
})
recorded_so cell number opening W W' P P' whole part outcome (inr is) = inr (record {
  history = is.history;
  first = is.first;
  last = is.last;
  parted = is.parted;
  halted = is.halted;
  asked = asked_so cell opening P P' is.history (part is.history) is.asked;
  is = is.is;
  text = is.text;
})
