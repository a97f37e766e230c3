-- What the walk of `drain` answers, told fact by fact.
use Rattle.std.specs.Prelude.{IfSome}
use Rattle.std.proofs.Common.{◌≡◌, ◌⊎◌, inl, inr, ℕ, List, [], ◌∷◌, ◌++◌, length, map, take, sym, ap, ◌∙◌, subst, append-nil, append_assoc}
use Rattle.std.proofs.lemmas.List.Elements.{All-head}
use Rattle.std.proofs.lemmas.List.{map-append, take-map}
use Rattle.outside_io.specs.Causes.{Rose}
use Rattle.outside_io.specs.Puts.{SinkTold}
use Rattle.cell_base.specs.declared.cells.Cell.{Cell}
use Rattle.cell_base.specs.declared.requests.Part.{Part}
use Rattle.cell_base.specs.declared.requests.Request.{Request}
use Rattle.cell_base.specs.declared.shifts.Entry.{Entry}
use Rattle.cell_base.specs.declared.shifts.Grant.{Grant}
use Rattle.cell_base.specs.Fits.{CellFits}
use Rattle.cell_base.specs.Histories.{after, grants, replay}
use Rattle.cell_base.specs.Plans.{plan_of}
use Rattle.journal_format.specs.Journals.{StandsForPrefix, StandsFor}
use Rattle.journal_format.specs.Replayed.{AreDue}
use Rattle.policy_laws.specs.Laws.{HasPlan}
use Rattle.policy_laws.proofs.Plans.{plan_law}
use Rattle.record_text.specs.Records.{text_of_record}
use Rattle.cell_walks.specs.Allowed.{StandsForAdded}
use Rattle.cell_walks.specs.DiskTold.{DiskTold}
use Rattle.cell_walks.specs.Observed.{Observed}
use Rattle.cell_walks.specs.Outcomes.{Outcome}
use Rattle.cell_walks.specs.Promises.{IsAnswered, Promises}
use Rattle.cell_walks.specs.StatusTells.{StatusTells}
use Rattle.cell_walks.specs.Statuses.{status_number}
use Rattle.cell_walks.specs.declared.status.Status.{Status}
use Rattle.cell_walks.proofs.Standing.{found_same}
use Rattle.cell_walks.proofs.Telling.{status_tells}
use Rattle.cell_walks.proofs.Walked.{now_weaker, since_weaker}
use Rattle.journal_texts.specs.Records.{IsHalted, IsRecorded}
use Rattle.durable_cell.specs.declared.replays.TheConstants.{MAX_ROOM}
use Rattle.journal_texts.proofs.Replays.{replay_admitted}
use Rattle.journal_texts.specs.AskedSteps.{AllGranted, HaltsAt, step_grant}
use Rattle.cell_commands.specs.Drain.{drain}
use Rattle.cell_commands.specs.DrainTold.{IsDrainFrom, IsEmptied, IsHaltedDrain, StandsForSome}
use Rattle.journal_texts.proofs.AskedSteps.{after_drained, grants-drained, grants-drained_to, last_asked}

module _ (disk : DiskTold) (cell : Cell) (text : List ℕ) (opening : List Grant) (outcome : Outcome) (fits : CellFits cell)
    (due : AreDue cell opening) (left : StandsForAdded disk text opening outcome.added outcome.unsure) where
  abbrev parts : List Part
  parts = replay cell opening

  abbrev plan : List Request
  plan = plan_of cell parts

  law : HasPlan cell parts
  law = plan_law cell fits parts (replay_admitted cell fits opening due)

  -- a prefix of grants that are those of steps
  some_steps : (file : List ℕ) (since : List Grant) (steps : List Request) → since ≡ map step_grant steps
      → StandsForPrefix text opening since file → StandsForSome text opening steps file
  some_steps file since steps is first = (
    first.0,
    subst (λ (grants : List Grant). StandsFor file text (opening ++ grants)) (ap (take first.0) is ∙ take-map step_grant first.0 steps)
        first.1,
  )

  pub is_emptied : IsRecorded cell 0 opening (AllGranted plan) outcome → IsEmptied disk cell text opening outcome
  is_emptied is =
      let emptied : after cell parts is.history ≡ [] =
      ap (after cell parts) is.asked.goes ∙ after_drained cell parts plan ∙ law.drains.emptied in
      let added : outcome.added ≡ map step_grant plan =
      ap (λ (o : Outcome). o.added) is.is ∙ ap (grants 0) is.asked.goes ∙ grants-drained plan in
      let sure : outcome.unsure ≡ [] = ap (λ (o : Outcome). o.unsure) is.is in
      let now = subst (λ (u : List Grant). StandsForAdded disk text opening outcome.added u) sure
      left in
      record {
        drains = law.drains;
        status = ap (λ (o : Outcome). o.status) is.is;
        written = is.text ∙ (λ i. text_of_record cell parts 0 (length opening) (is.asked.goes i) (plan_of cell (emptied i)));
        added = added;
        sure = sure;
        stands = now_weaker disk (λ file. StandsFor file text (opening ++ outcome.added)
            ⊎ StandsFor file text (opening ++ outcome.added ++ []))
            (λ file. StandsFor file text (opening ++ map step_grant plan))
            (λ file. elim [
              | inl so ↦ subst (λ (gs : List Grant). StandsFor file text (opening ++ gs)) added so
              | inr so ↦ subst (StandsFor file text)
                  (append-nil (opening ++ outcome.added) ∙ ap (λ (gs : List Grant). opening ++ gs) added) so
            ]) now.now;
        any_moment = since_weaker disk (StandsForPrefix text opening (outcome.added ++ [])) (StandsForSome text opening plan)
            (λ file. some_steps file (outcome.added ++ []) plan (append-nil outcome.added ∙ added)) now.any_moment;
      }

  pub is_halted : IsHalted cell 0 opening (HaltsAt plan) outcome → IsHaltedDrain disk cell text opening outcome
  is_halted is =
      let first = is.asked.goes.0 in
      let last = is.asked.goes.1 in
      let goes = is.asked.goes.4 in
      let added : outcome.added ≡ map step_grant first =
      ap (λ (o : Outcome). o.added) is.is ∙ ap (grants 0) goes ∙ grants-drained_to first last in
      let unsure : outcome.unsure ≡ step_grant last ∷ [] =
      ap (λ (o : Outcome). o.unsure) is.is ∙ ap (λ (g : Grant). g ∷ []) (last_asked is.first is.last first last (sym is.parted ∙ goes)) in
      let both : outcome.added ++ step_grant last ∷ [] ≡ map step_grant (first ++ last ∷ []) =
      ap (λ (gs : List Grant). gs ++ step_grant last ∷ []) added ∙ sym (map-append step_grant first (last ∷ [])) in
      let now = subst (λ (u : List Grant). StandsForAdded disk text opening outcome.added u) unsure left in
      record {
        first = first;
        last = last;
        rest = is.asked.goes.2;
        parted = is.asked.goes.3;
        status = ap (λ (o : Outcome). o.status) is.is;
        written = is.text ∙ ap (λ (h : List Entry). text_of_record cell parts 0 (length opening) h []) goes;
        added = added;
        unsure = unsure;
        stands = now_weaker disk
            (λ file. StandsFor file text (opening ++ outcome.added)
            ⊎ StandsFor file text (opening ++ outcome.added ++ step_grant last ∷ []))
            (λ file. StandsFor file text (opening ++ map step_grant first)
            ⊎ StandsFor file text (opening ++ map step_grant (first ++ last ∷ [])))
            (λ file. elim [
              | inl so ↦ inl (subst (λ (gs : List Grant). StandsFor file text (opening ++ gs)) added so)
              | inr so ↦ inr (subst (StandsFor file text)
                  (append_assoc opening outcome.added (step_grant last ∷ []) ∙ ap (λ (gs : List Grant). opening ++ gs) both) so)
            ]) now.now;
        any_moment = since_weaker disk (StandsForPrefix text opening (outcome.added ++ step_grant last ∷ []))
            (StandsForSome text opening (first ++ last ∷ []))
            (λ file. some_steps file (outcome.added ++ step_grant last ∷ []) (first ++ last ∷ []) both) now.any_moment;
        cause = All-head (λ grant. Rose disk.faults disk.faults_after) (step_grant last) [] now.cause;
      }

-- what is answered is a drain, whole or halted
module _ (seen : Observed) (cell : List ℕ) (outcome : Outcome) (now : IfSome seen.disk.reads seen.disk.leaves) where
  pub drain_told : IsAnswered seen (drain cell) outcome
      → IsDrainFrom IsEmptied seen cell outcome ⊎ IsDrainFrom IsHaltedDrain seen cell outcome
  drain_told (held, cell_read, (opening, opened, (answer, left))) = elim answer [
    | inl is ↦ inl (told_of IsEmptied (is_emptied seen.disk held.cell held.text opening outcome is.asked.fits opened.0 left is))
    | inr is ↦ inr (told_of IsHaltedDrain (is_halted seen.disk held.cell held.text opening outcome is.asked.fits opened.0 left is))
  ]
    where
      told_of : (Told : DiskTold → Cell → List ℕ → List Grant → Outcome → Type 0) → Told seen.disk held.cell held.text opening outcome
          → IsDrainFrom Told seen cell outcome
      told_of Told told = record {
        held = held;
        cell_read = cell_read;
        opening = opening;
        opened = opened;
        stood = λ grants was. sym (found_same seen.disk now held.text grants was held.cell MAX_ROOM opening opened.1);
        told = told;
      }

-- what the status of a drain tells
pub drain_tells : (seen : Observed) (sink : SinkTold) (cell : List ℕ) (status : Status) → IfSome seen.disk.reads seen.disk.leaves
    → Promises seen sink (drain cell) status → (number : ℕ) → number ≡ status_number status
    → StatusTells seen sink (drain cell) (IsDrainFrom IsEmptied seen cell) (IsDrainFrom IsHaltedDrain seen cell) number
drain_tells seen sink cell status now promised =
    status_tells seen sink (drain cell) status promised (IsDrainFrom IsEmptied seen cell) (IsDrainFrom IsHaltedDrain seen cell)
    (λ whole. whole.told.status) (λ stopped. stopped.told.status) (drain_told seen cell promised.outcome now) (λ held opening. tt)
