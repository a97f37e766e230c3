-- What is handed on of an opening, by what the opening says.
use Rattle.std.specs.Prelude.{IfErr, IfOk, IfSome, Result, Ok, Err}
use Rattle.std.proofs.Common.{◌≡◌, ℕ, List, Option, refl, sym, subst}
use Rattle.cell_base.specs.declared.shifts.Grant.{Grant}
use Rattle.journal_format.specs.Replayed.{opened_as}
use Rattle.shift_recovery.specs.Opening.{HasFaultCause, IsRefusalOf}
use Rattle.journal_format.specs.Reads.{OnlyReads}
use Rattle.shift_recovery.specs.declared.open_error.OpenError.{OpenError}
use Rattle.shift_recovery.specs.declared.open_error.OpenFault.{OpenFault}
use Rattle.shift_recovery.specs.declared.open_error.OpenFault.TheVariants as fault
use Rattle.durable_cell.specs.DurableState.{DurableState}
use Rattle.durable_cell.specs.declared.replays.TheConstants.{MAX_ROOM}
use Rattle.durable_cell.specs.declared.opening.Heard.{Heard}
use Rattle.durable_cell.specs.declared.opening.Opening.{Opening}
use Rattle.durable_cell.specs.declared.opening.Opening.TheVariants.{Open, Refused, Device, Memory}
use Rattle.durable_cell.specs.Openings.{HasCause, HasTaken, IsAnswer, IsNew, Leaves, fresh, heard_of, opened_of}
use Rattle.cell_walks.specs.Allowed.{IsNotOpened, OpeningFailed, OpeningRefused, OpeningStarved}
use Rattle.cell_walks.specs.DiskTold.{disk_told}
use Rattle.cell_walks.specs.declared.early_end.EarlyEnd.{EarlyEnd}
use Rattle.cell_texts.specs.Tests.{KnownCell}
use Rattle.cell_texts.specs.declared.made.Made.{Made}
use Rattle.journal_texts.specs.Openings.{end_unopened, opened_or_end}
use Rattle.journal_texts.specs.Tests.{to_add, to_read}
use Rattle.journal_texts.proofs.Disks.{adds_nothing, only_read}

-- what contracts see of an opening, as a result
abbrev pub Shown : Type 0 → Type 0
Shown D = Result (DurableState D) (OpenError D)

abbrev pub seen : {D O : Type 0} → (O → DurableState D) → Opening D O → Shown D
seen durable (Open opened) = Ok (durable opened)
seen durable (Refused disk why) = Err (record { disk = disk; why = fault.Refused why })
seen durable (Device disk) = Err (record { disk = disk; why = fault.Device })
seen durable (Memory disk) = Err (record { disk = disk; why = fault.Memory })

module _ {D O : Type 0} (durable : O → DurableState D) (reads_as : D → Option (List ℕ)) (may_leave : D → List ℕ → Type 0)
    (moment : D → ℕ) (left_since : D → ℕ → List ℕ → Type 0) (faults : D → ℕ) (held : KnownCell) (disk : D) (room limit : ℕ) where
  -- what is handed on of it
  abbrev IsNewOpened : O → Type 0
  IsNewOpened opened = let d = durable opened in d ≡ fresh held.cell held.text disk d.found d.disk d.opening limit

  abbrev IsOpenedAs : O → Type 0
  IsOpenedAs opened = IfSome (reads_as disk) (λ file. opened_as held.cell file held.text room ≡ Ok (durable opened).opening)

  abbrev Ends : Made EarlyEnd D → Type 0
  Ends end =
      IsNotOpened (disk_told reads_as may_leave moment left_since faults disk end.disk) (to_add held room) end.made

  -- what the opening says
  abbrev Answers : List ℕ → Shown D → Type 0
  Answers text shown = IsAnswer (reads_as disk) (λ file. opened_as held.cell file text room) shown

  abbrev LeavesAs : List ℕ → Shown D → Type 0
  LeavesAs text shown = Leaves reads_as may_leave moment left_since faults disk text shown

  new : (opening : Opening D O) → IsNew held.cell held.text disk limit (seen durable opening) → IfOk (opened_or_end opening) IsNewOpened
  new (Open opened) is = is
  new (Refused other why) is = tt
  new (Device other) is = tt
  new (Memory other) is = tt

  grants : (opening : Opening D O) → Answers held.text (seen durable opening) → IfOk (opened_or_end opening) IsOpenedAs
  grants (Open opened) is = is
  grants (Refused other why) is = tt
  grants (Device other) is = tt
  grants (Memory other) is = tt

  ends : (opening : Opening D O) → Answers held.text (seen durable opening) → HasCause faults disk (seen durable opening)
      → LeavesAs held.text (seen durable opening) → IfErr (opened_or_end opening) Ends
  ends (Open opened) is cause leaves = tt
  ends (Refused other why) is cause leaves =
      OpeningRefused why is (only_read reads_as may_leave moment left_since faults disk other leaves) refl
  ends (Device other) is cause leaves =
      OpeningFailed refl cause (adds_nothing reads_as may_leave moment left_since faults disk other held.text leaves)
  ends (Memory other) is cause leaves = OpeningStarved refl (only_read reads_as may_leave moment left_since faults disk other leaves)

  -- the same of what contracts see of the opening, and of what is handed on
  module _ (text : List ℕ) (text_is : text ≡ held.text) (opening : Opening D O) (shown : Shown D)
      (shown_is : shown ≡ seen durable opening) (result : Result O (Made EarlyEnd D)) (result_is : result ≡ opened_or_end opening) where
    answers : Answers text shown → Answers held.text (seen durable opening)
    answers is = subst (λ (o : Shown D). Answers held.text o) shown_is
        (subst (λ (t : List ℕ). Answers t shown) text_is is)

    leaves_as : LeavesAs text shown → LeavesAs held.text (seen durable opening)
    leaves_as is = subst (λ (o : Shown D). LeavesAs held.text o) shown_is
        (subst (λ (t : List ℕ). LeavesAs t shown) text_is is)

    pub is_new : IsNew held.cell text disk limit shown → IfOk result IsNewOpened
    is_new is = subst (λ (r : Result O (Made EarlyEnd D)). IfOk r IsNewOpened) (sym result_is)
        (new opening (subst (λ (o : Shown D). IsNew held.cell held.text disk limit o) shown_is
        (subst (λ (t : List ℕ). IsNew held.cell t disk limit shown) text_is is)))

    pub is_opened_as : Answers text shown → IfOk result IsOpenedAs
    is_opened_as is = subst (λ (r : Result O (Made EarlyEnd D)). IfOk r IsOpenedAs) (sym result_is) (grants opening (answers is))

    pub ended : Answers text shown → HasCause faults disk shown → LeavesAs text shown → IfErr result Ends
    ended is cause leaves = subst (λ (r : Result O (Made EarlyEnd D)). IfErr r Ends) (sym result_is)
        (ends opening (answers is) (subst (λ (o : Shown D). HasCause faults disk o) shown_is cause) (leaves_as leaves))

-- a disk that was only read, and not opened
pub unopened : {D : Type 0} (reads_as : D → Option (List ℕ)) (may_leave : D → List ℕ → Type 0) (moment : D → ℕ)
    (left_since : D → ℕ → List ℕ → Type 0) (faults : D → ℕ) (held : KnownCell) (old new : D) (why : OpenFault)
    → OnlyReads reads_as may_leave moment left_since old new
    → IsRefusalOf (reads_as old) (λ file. opened_as held.cell file held.text MAX_ROOM) why → HasFaultCause (faults old) (faults new) why
    → IsNotOpened (disk_told reads_as may_leave moment left_since faults old new) (to_read held) (end_unopened why)
unopened reads_as may_leave moment left_since faults held old new (fault.Refused why) reads refused cause =
    OpeningRefused why refused (only_read reads_as may_leave moment left_since faults old new reads) refl
unopened reads_as may_leave moment left_since faults held old new fault.Device reads refused cause =
    OpeningFailed refl cause (only_read reads_as may_leave moment left_since faults old new reads)
unopened reads_as may_leave moment left_since faults held old new fault.Memory reads refused cause =
    OpeningStarved refl (only_read reads_as may_leave moment left_since faults old new reads)

-- a durable cell is seen as it is
pub seen-durable : {D : Type 0} (opening : Opening D (DurableState D)) → opened_of opening ≡ seen (λ durable. durable) opening
seen-durable (Open durable) = refl
seen-durable (Refused disk why) = refl
seen-durable (Device disk) = refl
seen-durable (Memory disk) = refl

module _ {D G K : Type 0} where
  -- one with a visitor without it
  pub seen-heard : (opening : Opening D (Heard D G K)) → heard_of opening ≡ seen (λ heard. heard.durable) opening
  seen-heard (Open heard) = refl
  seen-heard (Refused disk why) = refl
  seen-heard (Device disk) = refl
  seen-heard (Memory disk) = refl

  taken_of : (visited : K → ℕ → List Grant → K → Type 0) (old : K) (opening : Opening D (Heard D G K)) → HasTaken visited old (opened_of opening)
      → IfOk (opened_or_end opening) (λ heard. (first : ℕ) × visited old first heard.durable.opening heard.kept)
  taken_of visited old (Open heard) is = is
  taken_of visited old (Refused disk why) is = tt
  taken_of visited old (Device disk) is = tt
  taken_of visited old (Memory disk) is = tt

  pub taken : (visited : K → ℕ → List Grant → K → Type 0) (old : K) (opening : Opening D (Heard D G K))
      (result : Result (Heard D G K) (Made EarlyEnd D)) → result ≡ opened_or_end opening → HasTaken visited old (opened_of opening)
      → IfOk result (λ heard. (first : ℕ) × visited old first heard.durable.opening heard.kept)
  taken visited old opening result result_is is =
      subst (λ (r : Result (Heard D G K) (Made EarlyEnd D)). IfOk r (λ heard. (first : ℕ) × visited old first heard.durable.opening heard.kept))
      (sym result_is) (taken_of visited old opening is)
