-- What the walk of `begin` answers, told fact by fact.
use Rattle.std.specs.Prelude.{IfSome}
use Rattle.std.proofs.Common.{◌≡◌, ◌⊎◌, inl, inr, ℕ, List, [], ◌∷◌, ◌++◌, length, take}
use Rattle.std.proofs.Common.{drop, refl, sym, ap, ◌∙◌, subst, append-nil, append_assoc}
use Rattle.std.proofs.lemmas.List.Elements.{All-head}
use Rattle.outside_io.specs.Causes.{Rose}
use Rattle.outside_io.specs.Puts.{SinkTold}
use Rattle.std.proofs.lemmas.List.{drop-map, map-append, take-append-drop, take_at}
use Rattle.cell_base.specs.declared.cells.Cell.{Cell}
use Rattle.cell_base.specs.declared.requests.Request.{Request}
use Rattle.cell_base.specs.declared.shifts.Entry.{Entry}
use Rattle.cell_base.specs.declared.shifts.Grant.{Grant}
use Rattle.cell_base.specs.Histories.{after, grants, replay}
use Rattle.cell_base.specs.Plans.{Drains, plan_of}
use Rattle.journal_format.specs.Journals.{StandsForPrefix, StandsFor}
use Rattle.record_text.specs.Records.{text_of_record}
use Rattle.cell_walks.specs.Allowed.{StandsForAdded}
use Rattle.cell_walks.specs.DiskTold.{DiskTold}
use Rattle.cell_walks.specs.Observed.{Observed}
use Rattle.cell_walks.specs.Outcomes.{Outcome}
use Rattle.cell_walks.specs.Promises.{IsAnswered, Promises}
use Rattle.cell_walks.specs.StatusTells.{StatusTells}
use Rattle.cell_walks.specs.Statuses.{status_number}
use Rattle.cell_walks.specs.declared.status.Status.{Status}
use Rattle.cell_walks.proofs.Standing.{found_same}
use Rattle.cell_walks.proofs.Telling.{status_tells}
use Rattle.cell_walks.proofs.Walked.{now_weaker, since_weaker}
use Rattle.journal_texts.specs.Records.{IsHalted, IsRecorded}
use Rattle.durable_cell.specs.declared.replays.TheConstants.{MAX_ROOM}
use Rattle.journal_texts.specs.AskedSteps.{AllGranted, HaltsAt, step_grant}
use Rattle.journal_texts.proofs.AskedSteps.{grants-drained, grants-drained_to, last_asked}
use Rattle.carry_commands.specs.Begin.{begin, requests_left}
use Rattle.carry_commands.specs.BeginTold.{IsBeginFrom, IsBegunWhole, IsHaltedBegin, StandsForFirstOf}
use Rattle.carry_commands.specs.Starts.{ArePrefix, start_grants}

module _ (disk : DiskTold) (cell : Cell) (text : List ℕ) (requests : List Request) (opening : List Grant) (outcome : Outcome)
    (are_first : ArePrefix requests opening) (left : StandsForAdded disk text opening outcome.added outcome.unsure) where
  abbrev rest : List Request
  rest = requests_left requests opening

  -- the grants of the journal and those of the other requests are those of the start
  whole : opening ++ start_grants rest ≡ start_grants requests
  whole =
      (λ i. are_first i ++ sym (drop-map step_grant (length opening) requests) i)
      ∙ take-append-drop (length opening) (start_grants requests)

  -- a prefix of the other grants, after those of the journal, is a prefix of the start
  some_first : (file : List ℕ) (since behind : List Grant) → start_grants rest ≡ since ++ behind → StandsForPrefix text opening since file
      → StandsForFirstOf text requests file
  some_first file since behind are (k, stands) =
      let front = opening ++ take k since in
      let all : front ++ (drop k since ++ behind) ≡ start_grants requests =
      append_assoc opening (take k since) (drop k since ++ behind)
      ∙ ap (λ (gs : List Grant). opening ++ gs)
      (sym (append_assoc (take k since) (drop k since) behind)
      ∙ ap (λ (gs : List Grant). gs ++ behind) (take-append-drop k since) ∙ sym are)
      ∙ whole in (
        length front,
        subst (StandsFor file text)
            (sym (take_at front (drop k since ++ behind) (length front) refl) ∙ ap (take (length front)) all) stands,
      )

  pub is_whole : IsRecorded cell 0 opening (AllGranted rest) outcome → IsBegunWhole disk cell text requests opening outcome
  is_whole is =
      let goes = is.asked.goes in
      let state = replay cell opening in
      let added : outcome.added ≡ start_grants rest =
      ap (λ (o : Outcome). o.added) is.is ∙ ap (grants 0) goes ∙ grants-drained rest in
      let sure : outcome.unsure ≡ [] = ap (λ (o : Outcome). o.unsure) is.is in
      let now = subst (λ (u : List Grant). StandsForAdded disk text opening outcome.added u) sure left in
      record {
        status = ap (λ (o : Outcome). o.status) is.is;
        drains = subst (λ (history : List Entry). let parts = after cell state history in Drains cell parts (plan_of cell parts)) goes
            is.drains;
        written = is.text
            ∙ ap (λ (history : List Entry). text_of_record cell state 0 (length opening) history (plan_of cell (after cell state history)))
            goes;
        added = added;
        sure = sure;
        stands = now_weaker disk (λ file. StandsFor file text (opening ++ outcome.added)
            ⊎ StandsFor file text (opening ++ outcome.added ++ []))
            (λ file. StandsFor file text (start_grants requests))
            (λ file. elim [
              | inl so ↦ subst (StandsFor file text) (ap (λ (gs : List Grant). opening ++ gs) added ∙ whole) so
              | inr so ↦ subst (StandsFor file text)
                  (append-nil (opening ++ outcome.added) ∙ ap (λ (gs : List Grant). opening ++ gs) added ∙ whole) so
            ]) now.now;
        any_moment = since_weaker disk (StandsForPrefix text opening (outcome.added ++ [])) (StandsForFirstOf text requests)
            (λ file. some_first file (outcome.added ++ []) []
            (sym added ∙ sym (append-nil outcome.added) ∙ sym (append-nil (outcome.added ++ [])))) now.any_moment;
      }

  pub is_halted : IsHalted cell 0 opening (HaltsAt rest) outcome → IsHaltedBegin disk cell text requests opening outcome
  is_halted is =
      let first = is.asked.goes.0 in
      let last = is.asked.goes.1 in
      let others = is.asked.goes.2 in
      let parted = is.asked.goes.3 in
      let goes = is.asked.goes.4 in
      let added : outcome.added ≡ start_grants first =
      ap (λ (o : Outcome). o.added) is.is ∙ ap (grants 0) goes ∙ grants-drained_to first last in
      let unsure : outcome.unsure ≡ step_grant last ∷ [] =
      ap (λ (o : Outcome). o.unsure) is.is ∙ ap (λ (g : Grant). g ∷ []) (last_asked is.first is.last first last (sym is.parted ∙ goes)) in
      let both : outcome.added ++ step_grant last ∷ [] ≡ start_grants (first ++ last ∷ []) =
      ap (λ (gs : List Grant). gs ++ step_grant last ∷ []) added ∙ sym (map-append step_grant first (last ∷ [])) in
      let all : start_grants rest ≡ (outcome.added ++ step_grant last ∷ []) ++ start_grants others =
      ap start_grants parted ∙ map-append step_grant first (last ∷ others)
      ∙ ap (λ (gs : List Grant). gs ++ step_grant last ∷ start_grants others) (sym added)
      ∙ sym (append_assoc outcome.added (step_grant last ∷ []) (start_grants others)) in
      let now = subst (λ (u : List Grant). StandsForAdded disk text opening outcome.added u) unsure left in
      record {
        first = first;
        last = last;
        rest = others;
        parted = parted;
        status = ap (λ (o : Outcome). o.status) is.is;
        written = is.text ∙ ap (λ (h : List Entry). text_of_record cell (replay cell opening) 0 (length opening) h []) goes;
        added = added;
        unsure = unsure;
        stands = now_weaker disk
            (λ file. StandsFor file text (opening ++ outcome.added)
            ⊎ StandsFor file text (opening ++ outcome.added ++ step_grant last ∷ []))
            (λ file. StandsFor file text (opening ++ start_grants first)
            ⊎ StandsFor file text (opening ++ start_grants (first ++ last ∷ [])))
            (λ file. elim [
              | inl so ↦ inl (subst (λ (gs : List Grant). StandsFor file text (opening ++ gs)) added so)
              | inr so ↦ inr (subst (StandsFor file text)
                  (append_assoc opening outcome.added (step_grant last ∷ []) ∙ ap (λ (gs : List Grant). opening ++ gs) both) so)
            ]) now.now;
        any_moment = since_weaker disk (StandsForPrefix text opening (outcome.added ++ step_grant last ∷ []))
            (StandsForFirstOf text requests)
            (λ file. some_first file (outcome.added ++ step_grant last ∷ []) (start_grants others) all) now.any_moment;
        cause = All-head (λ grant. Rose disk.faults disk.faults_after) (step_grant last) [] now.cause;
      }

-- what is answered is a begin, whole or halted
module _ (seen : Observed) (cell start : List ℕ) (outcome : Outcome) (now : IfSome seen.disk.reads seen.disk.leaves) where
  pub begin_told : IsAnswered seen (begin cell start) outcome
      → IsBeginFrom IsBegunWhole seen cell start outcome ⊎ IsBeginFrom IsHaltedBegin seen cell start outcome
  begin_told (held, cell_read, (requests, start_read, (had, granted, (opening, opened, (at, first, (answer, left)))))) = elim answer [
    | inl is ↦ inl (told_of IsBegunWhole (is_whole seen.disk held.cell held.text requests opening outcome first left is))
    | inr is ↦ inr (told_of IsHaltedBegin (is_halted seen.disk held.cell held.text requests opening outcome first left is))
  ]
    where
      told_of : (Told : DiskTold → Cell → List ℕ → List Request → List Grant → Outcome → Type 0)
          → Told seen.disk held.cell held.text requests opening outcome → IsBeginFrom Told seen cell start outcome
      told_of Told told = record {
        held = held;
        cell_read = cell_read;
        requests = requests;
        start_read = start_read;
        granted = granted;
        opening = opening;
        opened = opened;
        stood = λ grants was. sym (found_same seen.disk now held.text grants was held.cell MAX_ROOM opening opened.1);
        first = first;
        told = told;
      }

-- what the status of a begin tells
pub begin_tells : (seen : Observed) (sink : SinkTold) (cell start : List ℕ) (status : Status) → IfSome seen.disk.reads seen.disk.leaves
    → Promises seen sink (begin cell start) status → (number : ℕ) → number ≡ status_number status
    → StatusTells seen sink (begin cell start) (IsBeginFrom IsBegunWhole seen cell start) (IsBeginFrom IsHaltedBegin seen cell start) number
begin_tells seen sink cell start status now promised =
    status_tells seen sink (begin cell start) status promised (IsBeginFrom IsBegunWhole seen cell start)
    (IsBeginFrom IsHaltedBegin seen cell start) (λ whole. whole.told.status) (λ stopped. stopped.told.status)
    (begin_told seen cell start promised.outcome now) (λ held requests granted opening first. tt)
