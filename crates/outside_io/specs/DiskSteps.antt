-- What the steps of a disk make of its first bytes.
use Rattle.std.specs.Prelude.{◌≡◌, ℕ, ◌-◌, ◌≤◌, List, [], ◌∷◌, ◌++◌, length, take}
use Rattle.outside_io.specs.Images.{DiskState, IsImage, at_rest, wrote, lost}
use Rattle.outside_io.specs.declared.disk_steps.DiskStep.{DiskStep}
use Rattle.outside_io.specs.declared.disk_steps.DiskStep.TheVariants.{Wrote, Lost, Synced}

-- what a step leaves of a state
abbrev pub after_step : DiskState → DiskStep → DiskState
after_step state (Wrote at bytes) = wrote state at bytes.items
after_step state (Lost at end) = lost state at (end - at)
after_step state Synced = at_rest state.seen

-- what steps leave of a state, the first of them first
abbrev pub after_steps : DiskState → List DiskStep → DiskState
after_steps state [] = state
after_steps state (step ∷ steps) = after_steps (after_step state step) steps

-- what a crash after some of the steps, the t-th or a later one, might have left
abbrev pub MightHaveLeft : List ℕ → List DiskStep → ℕ → List ℕ → Type 0
MightHaveLeft first steps t image =
    (k : ℕ) × (t ≤ k) × (k ≤ length steps) × IsImage (after_steps (at_rest first) (take k steps)) image

-- the record has one step more, which does this
pub record Extends (old new : List DiskStep) (does : DiskState → DiskState) : Type 0 where
  pub step : DiskStep
  pub grown : new ≡ old ++ step ∷ []
  pub done : (state : DiskState) → after_step state step ≡ does state
