-- What the exit status tells of a command that adds to its journal follows of what its walk promises.
use Rattle.std.specs.Prelude.{slice_get}
use Rattle.std.proofs.Common.{◌≡◌, ◌≢◌, ◌⊎◌, inl, inr, ◌∙◌, ℕ, List, [], ◌∷◌, Some, ap, refl, sym}
use Rattle.std.proofs.lemmas.Option.{same_Some}
use Rattle.outside_io.specs.Puts.{SinkTold, TookAll}
use Rattle.cell_walks.specs.Observed.{Observed}
use Rattle.cell_walks.specs.Outcomes.{Outcome}
use Rattle.cell_walks.specs.Promises.{IsAnswered, OpensOnce, Promises, ReadFailed, DiskFailed, MemoryFailed, Decided}
use Rattle.cell_walks.specs.StatusTells.{HasFailedEarly, IsEarlyEnd, StatusTells}
use Rattle.cell_walks.specs.Statuses.{status_number}
use Rattle.cell_walks.specs.Walks.{Walk}
use Rattle.cell_walks.specs.declared.early_end.EarlyEnd.TheVariants.{NotRead, DeviceFailed, WantOfMemory, Refused}
use Rattle.cell_walks.specs.declared.status.Status.{Status}
use Rattle.cell_walks.specs.declared.status.Status.TheVariants.{Done, Denied, NoCommand, ReadFault, CellRefused}
use Rattle.cell_walks.specs.declared.status.Status.TheVariants.{InputRefused, JournalRefused, DeviceFault}
use Rattle.cell_walks.specs.declared.status.Status.TheVariants.{SinkFault, NoMemory, CommandRefused}

-- ---- numbers of statuses

-- the statuses by their numbers
abbrev numbered : List Status
numbered =
    Done ∷ Denied ∷ NoCommand ∷ ReadFault ∷ CellRefused ∷ InputRefused ∷ JournalRefused ∷ DeviceFault ∷ SinkFault ∷ NoMemory
    ∷ CommandRefused ∷ []

at_number : (status : Status) → slice_get numbered (status_number status) ≡ Some status
at_number Done = refl
at_number Denied = refl
at_number NoCommand = refl
at_number ReadFault = refl
at_number CellRefused = refl
at_number InputRefused = refl
at_number JournalRefused = refl
at_number DeviceFault = refl
at_number SinkFault = refl
at_number NoMemory = refl
at_number CommandRefused = refl

-- a number is that of one status
pub one_status : (one other : Status) → status_number one ≡ status_number other → one ≡ other
one_status one other is = same_Some one other (sym (at_number one) ∙ ap (slice_get numbered) is ∙ at_number other)

-- ---- what is told

module _ (seen : Observed) (sink : SinkTold) (walk : Walk) (status : Status) (promised : Promises seen sink walk status) where
  abbrev outcome : Outcome
  outcome = promised.outcome

  -- whatever the status, it is an early end or an answer
  pub early_or_answered : IsEarlyEnd outcome ⊎ IsAnswered seen walk outcome
  early_or_answered = elim promised.cause [
    | ReadFailed is rose not ↦ inl (NotRead, is)
    | DiskFailed is rose not ↦ inl (DeviceFailed, is)
    | MemoryFailed is ↦ inl (WantOfMemory, is)
    | Decided (inl refused) ↦ inl (Refused refused.0, refused.1)
    | Decided (inr answers) ↦ inr answers
  ]

  -- the device failed before anything was asked, or it answered so
  pub failed_early : status ≡ DeviceFault
      → HasFailedEarly seen sink outcome ⊎ (IsAnswered seen walk outcome × (DeviceFault ≡ outcome.status) × TookAll sink outcome.pieces)
  failed_early is =
      let put = promised.whole (λ eight. absurd (let both = sym is ∙ eight in cc)) in
      elim (promised.device_fault is) [
        | inl failed ↦ inl (failed.0, put.1, failed.1)
        | inr answers ↦ inr (answers, sym is ∙ put.0, put.1)
      ]

  module _ (IsWhole IsHalted : Outcome → Type 0) (whole_status : IsWhole outcome → outcome.status ≡ Done)
      (halted_status : IsHalted outcome → outcome.status ≡ DeviceFault)
      (answers : IsAnswered seen walk outcome → IsWhole outcome ⊎ IsHalted outcome) where
    done : status ≡ Done → IsWhole outcome × TookAll sink outcome.pieces
    done is =
        let answered = promised.done is in
        elim (answers answered.0) [
          | inl whole ↦ (whole, answered.2)
          | inr halted ↦ let both = sym (answered.1 ∙ is) ∙ halted_status halted in absurd (cc)
        ]

    halted : status ≡ DeviceFault → HasFailedEarly seen sink outcome ⊎ (IsHalted outcome × TookAll sink outcome.pieces)
    halted is = elim (failed_early is) [
      | inl failed ↦ inl failed
      | inr answered ↦ elim (answers answered.0) [
        | inl whole ↦ let both = answered.1 ∙ whole_status whole in absurd (cc)
        | inr stopped ↦ inr (stopped, answered.2)
      ]
    ]

    either : IsEarlyEnd outcome ⊎ (IsWhole outcome ⊎ IsHalted outcome)
    either = elim early_or_answered [ inl early ↦ inl early | inr answered ↦ inr (answers answered) ]

    ended : (number : ℕ) → number ≡ status_number status → number ≢ 0 → number ≢ 7 → number ≢ 8
        → IsEarlyEnd outcome × (number ≡ status_number outcome.status) × TookAll sink outcome.pieces
    ended number same zero seven eight =
        let put = promised.whole (λ is. eight (same ∙ ap status_number is)) in
        let told : number ≡ status_number outcome.status = same ∙ ap status_number put.0 in
        elim either [
          | inl early ↦ (early, told, put.1)
          | inr (inl whole) ↦ absurd (zero (told ∙ ap status_number (whole_status whole)))
          | inr (inr stopped) ↦ absurd (seven (told ∙ ap status_number (halted_status stopped)))
        ]

    pub status_tells : OpensOnce walk → (number : ℕ) → number ≡ status_number status
        → StatusTells seen sink walk IsWhole IsHalted number
    status_tells once number same = record {
      outcome = outcome;
      done = λ is. done (one_status status Done (sym same ∙ is));
      halted = λ is. halted (one_status status DeviceFault (sym same ∙ is));
      cut = λ is. (promised.cut (one_status status SinkFault (sym same ∙ is)), either);
      ended = ended number same;
      crash = promised.keeps once;
    }
