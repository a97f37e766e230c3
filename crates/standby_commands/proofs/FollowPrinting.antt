-- What is told after the answers.
use Rattle.std.proofs.Common.{◌≡◌, ℕ, [], ◌∷◌, refl}
use Rattle.cell_base.specs.declared.cells.Cell.{Cell}
use Rattle.cell_walks.specs.Outcomes.{printed}
use Rattle.cell_walks.specs.declared.status.Status.TheVariants.{CommandRefused}
use Rattle.standby_link.specs.declared.take_fault.TakeFault.{TakeFault}
use Rattle.standby_link.specs.declared.take_fault.TakeFault.TheVariants.{Halted, NotAFrame, Conflict, NoFit, NotGranted, Full, Device}
use Rattle.standby_commands.specs.Following.{stop_outcome}
use Rattle.standby_commands.specs.Lines.{follow_refused}

-- why a frame is refused is told by its line
pub told_so : (cell : Cell) (index : ℕ) (why : TakeFault) → (why ≡ Device → ⊥)
    → stop_outcome cell index why ≡ printed CommandRefused (follow_refused cell index why ∷ [])
told_so cell index (Halted at) other = refl
told_so cell index NotAFrame other = refl
told_so cell index (Conflict at kept) other = refl
told_so cell index NoFit other = refl
told_so cell index (NotGranted why) other = refl
told_so cell index (Full len) other = refl
told_so cell index Device other = absurd (other refl)
