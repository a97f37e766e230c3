-- Where the sessions of a shift start after the grants that a journal has.
use Rattle.std.specs.Prelude.{◌≡◌, ℕ, List, [], ◌∷◌, ◌++◌}
use Rattle.std.specs.List.{All}
use Rattle.cell_base.specs.declared.shifts.Grant.{Grant}
use Rattle.cell_base.specs.declared.shifts.Shift.{Shift}
use Rattle.cell_base.specs.Rounds.{IsSession}
use Rattle.cell_base.specs.Scripts.{HasFirstSteps}

-- The grants of the shift's number are the first steps of its sessions' scripts, and are no one else's.
pub record AreFirstSteps (shift : Shift) (opening : List Grant) : Type 0 where
  pub each : (session : ℕ) → IsSession shift session → HasFirstSteps shift session opening
  pub known : All (λ grant. grant.shift ≡ shift.number → IsSession shift grant.session) opening

-- With this grant of the session, and with none before it, they are not: it is not the next step of its script, or the session is none
-- of the shift.
pub record IsOtherShift (shift : Shift) (opening : List Grant) (session : ℕ) : Type 0 where
  pub before : List Grant
  pub stray : Grant
  pub later : List Grant
  pub parted : opening ≡ before ++ stray ∷ later
  pub started : AreFirstSteps shift before
  pub strays : AreFirstSteps shift (before ++ stray ∷ []) → ⊥
  pub session_is : session ≡ stray.session
