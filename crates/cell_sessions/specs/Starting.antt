-- Where the sessions of a shift start after the grants that a journal has.
use Rattle.std.specs.Prelude.{◌≡◌, ℕ, ◌+◌, ◌==◌, List, filter, length, slice_get, take, Option, None, Some, ⊤}
use Rattle.cell_base.specs.declared.limits.TheConstants.{MAX_STEPS}
use Rattle.cell_base.specs.declared.shifts.Grant.{Grant}
use Rattle.cell_base.specs.declared.shifts.Shift.{Shift}
use Rattle.cell_base.specs.Scripts.{Progress, begin_at, first_step, script_of}
use Rattle.cell_base.specs.Starts.{AreFirstSteps, IsOtherShift}
use Rattle.cell_sessions.specs.declared.fault.BeginFault.{BeginFault}
use Rattle.cell_sessions.specs.declared.progress.Progress.{Progress as OneProgress}
use Rattle.cell_sessions.specs.Progressing.{start_at}
use Rattle.cell_sessions.specs.declared.fault.BeginFault.TheVariants.{OtherShift, Memory}

-- why sessions do not begin: memory may always be wanting
abbrev pub IsBeginFault : Shift → List Grant → BeginFault → Type 0
IsBeginFault shift opening (OtherShift session) = IsOtherShift shift opening session
IsBeginFault shift opening Memory = ⊤

-- each session stands at the step that its grants reach, with no refusals: session k + 1 has progress k
abbrev pub StandAtStart : Shift → List Grant → List Progress → Type 0
StandAtStart shift grants progress =
    (k : ℕ) (at : Progress) → slice_get progress k ≡ Some at → at ≡ begin_at (first_step shift (k + 1) grants)

-- the sessions of the shift, each with its progress, at the step that its grants reach: session k + 1 has progress k
pub record AreBegun (shift : Shift) (opening : List Grant) (progress : List OneProgress) : Type 0 where
  pub count : length progress ≡ length shift.scripts
  pub each : (k : ℕ) (at : OneProgress) → slice_get progress k ≡ Some at
      → at ≡ start_at (script_of shift (k + 1)) (first_step shift (k + 1) opening)

-- the grants of a shift's number
abbrev pub of_shift : ℕ → List Grant → List Grant
of_shift number grants = filter (λ grant. grant.shift == number) grants

-- the first of them, one more than any shift has steps
abbrev pub first_of_shift : ℕ → List Grant → List Grant
first_of_shift number grants = take (MAX_STEPS + 1) (of_shift number grants)

-- the grants are first steps of the scripts, and the sessions stand after them
pub record IsReached (shift : Shift) (grants : List Grant) (progress : List Progress) : Type 0 where
  pub started : AreFirstSteps shift grants
  pub stand : StandAtStart shift grants progress

-- these grants led the sessions there, or this session's grant is the first that is no next step
abbrev pub IsLed : Shift → List Grant → List Progress → Option ℕ → Type 0
IsLed shift grants progress None = IsReached shift grants progress
IsLed shift grants progress (Some session) = IsOtherShift shift grants session

-- a shift, the progress of its sessions, and the session of a grant that was no next step
pub record StartState : Type 0 where
  pub shift : Shift
  pub reached : List Progress
  pub stray : Option ℕ

-- it stands so after these grants
abbrev pub HasLed : List Grant → StartState → Type 0
HasLed grants starts = IsLed starts.shift grants starts.reached starts.stray
