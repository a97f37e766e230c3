-- What a walk over the gates of a file finds.
use Rattle.std.specs.Prelude.{◌≡◌, ℕ, ◌+◌, ◌*◌, ◌≤◌, Option, IfSome, Ok, Err, List, length, drop}
use Rattle.cell_base.specs.declared.shifts.Grant.{Grant}
use Rattle.entry_codec.specs.declared.encoder.TheConstants.{ENTRY_SIZE}
use Rattle.shift_recovery.specs.declared.walks.Walked.{Walked}
use Rattle.shift_recovery.specs.declared.walks.Walked.TheVariants.{Closed, Faulty}
use Rattle.journal_format.specs.Readings.{grants_from}

-- the visitor saw the grants up to a closed gate, no more than room, and they are those of the file from an offset on
pub record IsTakenFrom {T : Type 0} (told : Option (List ℕ)) (first room : ℕ) (visited : T → ℕ → List Grant → T → Type 0) (old new : T)
    (gate count : ℕ) : Type 0 where
  pub grants : List Grant
  pub taken : visited old first grants new
  pub counted : count ≡ length grants
  pub few : count ≤ room
  pub gate_is : gate ≡ first + ENTRY_SIZE * length grants
  pub found : IfSome told (λ file. grants_from room room first (drop first file) ≡ Ok grants)

-- the grants up to the closed gate, or the first fault, of the file from an offset on
abbrev pub IsWalkFrom : {T : Type 0} → Option (List ℕ) → ℕ → ℕ → (T → ℕ → List Grant → T → Type 0) → T → T → Walked → Type 0
IsWalkFrom told first room visited old new (Closed gate count) = IsTakenFrom told first room visited old new gate count
IsWalkFrom told first room visited old new (Faulty why) = IfSome told (λ file. grants_from room room first (drop first file) ≡ Err why)
