-- Steps that were asked for: their entries fit where they do, which of them halted, the grants of the others; and the record of them.
use Rattle.std.specs.Option.{option_map}
use Rattle.std.proofs.Common.{◌≡◌, inl, inr, false, true, List, [], ◌∷◌, ◌++◌, map, All, Option, Some, refl, sym, ap, ◌∙◌, subst}
use Rattle.std.proofs.lemmas.Bool.{true≢false}
use Rattle.std.proofs.lemmas.List.Elements.{All-nil, All-cons, All-head, All-tail, All-map}
use Rattle.cell_base.specs.declared.cells.Cell.{Cell}
use Rattle.cell_base.specs.declared.requests.Part.{Part}
use Rattle.cell_base.specs.declared.requests.Reply.TheVariants.{Granted}
use Rattle.cell_base.specs.declared.requests.Request.{Request}
use Rattle.cell_base.specs.declared.requests.Told.TheVariants.{Answered, Halted}
use Rattle.cell_base.specs.declared.shifts.Entry.{Entry}
use Rattle.cell_base.specs.declared.shifts.Grant.{Grant}
use Rattle.cell_base.specs.Fits.{CellFits, RequestFits}
use Rattle.cell_base.specs.Histories.{after, after_requests, grants}
use Rattle.cell_base.specs.Outcomes.{state_after}
use Rattle.cell_base.specs.Scripts.{holds_halt}
use Rattle.durable_cell.specs.Asked.{grant_of, halted_in}
use Rattle.durable_cell.specs.DurableState.{DurableState}
use Rattle.cell_walks.specs.Outcomes.{Outcome}
use Rattle.journal_texts.specs.AskedSteps.{AllGranted, AreAsked, HaltsAt, HaltsIn, IsAskedIn, after_plan_steps}
use Rattle.journal_texts.specs.AskedSteps.{drained, drained_to, step_entry, step_grant}
use Rattle.journal_texts.specs.Recorded.{IsAskedUnder, IsHaltedIn, IsUnhaltedIn}
use Rattle.journal_texts.specs.Records.{IsRecordedOrHalted}
use Rattle.journal_texts.proofs.HaltedHistories.{none_halted}
use Rattle.journal_texts.proofs.Recording.{recorded_so}

module _ (cell : Cell) (fits : CellFits cell) where
  -- the requests of their entries fit
  pub drained_fit : (steps : List Request) → All (RequestFits cell) steps
      → All (λ (entry : Entry). RequestFits cell entry.request) (drained steps)
  drained_fit steps fit = All-map (λ (entry : Entry). RequestFits cell entry.request) (step_entry (Answered Granted)) steps fit

  pub drained_to_fit : (first rest : List Request) (last : Request) → All (RequestFits cell) (first ++ last ∷ rest)
      → All (λ (entry : Entry). RequestFits cell entry.request) (drained_to first last)
  drained_to_fit [] rest last fit =
      All-cons (λ (entry : Entry). RequestFits cell entry.request) (step_entry Halted last) [] (All-head (RequestFits cell) last rest fit)
      (All-nil (λ (entry : Entry). RequestFits cell entry.request))
  drained_to_fit (step ∷ first) rest last fit =
      All-cons (λ (entry : Entry). RequestFits cell entry.request) (step_entry (Answered Granted) step) (drained_to first last)
      (All-head (RequestFits cell) step (first ++ last ∷ rest) fit)
      (drained_to_fit first rest last (All-tail (RequestFits cell) step (first ++ last ∷ rest) fit))

-- none of them halted, or the last one did
pub drained_unhalted : (steps : List Request) → holds_halt (drained steps) ≡ false
drained_unhalted [] = refl
drained_unhalted (step ∷ steps) = drained_unhalted steps

pub drained_to_halted : (steps : List Request) (last : Request) → holds_halt (drained_to steps last) ≡ true
drained_to_halted [] last = refl
drained_to_halted (step ∷ steps) last = drained_to_halted steps last

-- the halted one is the last
pub halted_in-drained_to : (steps : List Request) (last : Request) → halted_in (drained_to steps last) ≡ Some (step_entry Halted last)
halted_in-drained_to [] last = refl
halted_in-drained_to (step ∷ steps) last = halted_in-drained_to steps last

-- the grants of steps that were granted are those of the steps
pub grants-drained : (steps : List Request) → grants 0 (drained steps) ≡ map step_grant steps
grants-drained [] = refl
grants-drained (step ∷ steps) = ap (λ (rest : List Grant). step_grant step ∷ rest) (grants-drained steps)

pub grants-drained_to : (steps : List Request) (last : Request) → grants 0 (drained_to steps last) ≡ map step_grant steps
grants-drained_to [] last = refl
grants-drained_to (step ∷ steps) last = ap (λ (rest : List Grant). step_grant step ∷ rest) (grants-drained_to steps last)

-- the state after steps that were granted
pub after_drained : (cell : Cell) (parts : List Part) (steps : List Request)
    → after cell parts (drained steps) ≡ after_requests cell parts steps
after_drained cell parts [] = refl
after_drained cell parts (step ∷ steps) = after_drained cell (state_after cell parts step) steps

-- the last entry of steps that halted is the halted one
pub last_asked : (first : List Entry) (last : Entry) (steps : List Request) (step : Request) → first ++ last ∷ [] ≡ drained_to steps step
    → grant_of 0 last ≡ step_grant step
last_asked first last steps step same = ap (grant_of 0) (by_ends first (drained steps) last _ same)
  where
    by_ends : (a b : List Entry) (x y : Entry) → a ++ x ∷ [] ≡ b ++ y ∷ [] → x ≡ y
    by_ends [] [] x y is = cc
    by_ends [] (e ∷ []) x y is = absurd (cc)
    by_ends [] (e ∷ f ∷ b) x y is = absurd (cc)
    by_ends (e ∷ []) [] x y is = absurd (cc)
    by_ends (e ∷ f ∷ a) [] x y is = absurd (cc)
    by_ends (e ∷ a) (f ∷ b) x y is = by_ends a b x y (cc)

-- ---- in a durable cell

module _ {D : Type 0} (steps : List Request) (old new : DurableState D) where
  abbrev halted_cell : HaltsIn steps old new → DurableState D
  halted_cell halts = record old {
    disk = new.disk;
    history = drained_to halts.first halts.last;
    added = map step_grant halts.first;
    unsure = Some (step_grant halts.last);
  }

  -- everything was asked under number 0
  pub asked_under : CellFits old.cell → All (RequestFits old.cell) steps → IsAskedIn steps old new → IsAskedUnder 0 new
  asked_under cell fit (inl is) = subst (IsAskedUnder 0) (sym is) (record {
    added = sym (grants-drained steps);
    unsure = sym (ap (λ (o : Option Entry). option_map (grant_of 0) o) (none_halted (drained steps) (drained_unhalted steps)));
    requests = drained_fit old.cell cell steps fit;
  })
  asked_under cell fit (inr halts) = subst (IsAskedUnder 0) (sym halts.is) (record {
    added = sym (grants-drained_to halts.first halts.last);
    unsure = sym (ap (λ (o : Option Entry). option_map (grant_of 0) o) (halted_in-drained_to halts.first halts.last));
    requests = drained_to_fit old.cell cell halts.first halts.rest halts.last (subst (All (RequestFits old.cell)) halts.parted fit);
  })

  -- ---- the record

  part_none : (history : List Entry) → IsHaltedIn (after_plan_steps old new.disk steps) history → HaltsAt steps history
  part_none history is = absurd (true≢false (sym is.1 ∙ ap holds_halt is.0 ∙ drained_unhalted steps))

  module _ (halts : HaltsIn steps old new) where
    whole_none : (history : List Entry) → IsUnhaltedIn (halted_cell halts) history → AllGranted steps history
    whole_none history is =
        absurd (true≢false (sym (drained_to_halted halts.first halts.last) ∙ sym (ap holds_halt is.0) ∙ is.1))

    part_is : (history : List Entry) → IsHaltedIn (halted_cell halts) history → HaltsAt steps history
    part_is history is = (halts.first, halts.last, halts.rest, halts.parted, is.0)

  pub asked_so : IsAskedIn steps old new → (outcome : Outcome)
      → IsRecordedOrHalted new.cell 0 new.opening (IsUnhaltedIn new) (IsHaltedIn new) outcome
      → AreAsked old.cell old.opening steps outcome
  asked_so (inl is) outcome =
      subst (λ (d : DurableState D). IsRecordedOrHalted d.cell 0 d.opening (IsUnhaltedIn d) (IsHaltedIn d) outcome
      → AreAsked old.cell old.opening steps outcome) (sym is)
      (recorded_so old.cell 0 old.opening (IsUnhaltedIn (after_plan_steps old new.disk steps)) (AllGranted steps)
      (IsHaltedIn (after_plan_steps old new.disk steps)) (HaltsAt steps) (λ history is. is.0) part_none outcome)
  asked_so (inr halts) outcome =
      subst (λ (d : DurableState D). IsRecordedOrHalted d.cell 0 d.opening (IsUnhaltedIn d) (IsHaltedIn d) outcome
      → AreAsked old.cell old.opening steps outcome) (sym halts.is)
      (recorded_so old.cell 0 old.opening (IsUnhaltedIn (halted_cell halts)) (AllGranted steps) (IsHaltedIn (halted_cell halts))
      (HaltsAt steps) (whole_none halts) (part_is halts) outcome)

  -- ---- the disk

  -- what is said of the disk at entry, the cell, the text and the opening grants alone was so before
  pub same_opening : IsAskedIn steps old new → (P : DurableState D → Type 0)
      → ((disk : D) (history : List Entry) (added : List Grant) (unsure : Option Grant)
      → P (record old { disk = disk; history = history; added = added; unsure = unsure }) → P old) → P new → P old
  same_opening (inl is) P keeps p = keeps _ _ _ _ (subst P is p)
  same_opening (inr halts) P keeps p = keeps _ _ _ _ (subst P halts.is p)
