-- What the exit status tells of a command that adds to its journal: it came to its end, or the writing of a grant failed.
use Rattle.std.specs.Prelude.{◌≡◌, ◌≢◌, ◌⊎◌, ℕ}
use Rattle.outside_io.specs.Causes.{Rose}
use Rattle.outside_io.specs.Puts.{SinkTold, TookAll}
use Rattle.cell_walks.specs.Observed.{Observed}
use Rattle.cell_walks.specs.Outcomes.{Outcome, early}
use Rattle.cell_walks.specs.Promises.{IsCut, KeepsGrants}
use Rattle.cell_walks.specs.Statuses.{status_number}
use Rattle.cell_walks.specs.Walks.{Walk}
use Rattle.cell_walks.specs.declared.early_end.EarlyEnd.{EarlyEnd}
use Rattle.cell_walks.specs.declared.early_end.EarlyEnd.TheVariants.{DeviceFailed}

-- the device failed before anything was asked: the line that tells so was taken, and the disk's count of faults rose
abbrev pub HasFailedEarly : Observed → SinkTold → Outcome → Type 0
HasFailedEarly seen sink outcome =
    (outcome ≡ early DeviceFailed) × TookAll sink outcome.pieces × Rose seen.disk.faults seen.disk.faults_after

-- the outcome is that of an early end, which adds nothing
abbrev pub IsEarlyEnd : Outcome → Type 0
IsEarlyEnd outcome = (end : EarlyEnd) × (outcome ≡ early end)

pub record StatusTells (seen : Observed) (sink : SinkTold) (walk : Walk) (IsWhole IsHalted : Outcome → Type 0) (status : ℕ) : Type 0 where
  pub outcome : Outcome
  -- Status 0: it came to its end, and all that it prints was taken.
  pub done : status ≡ 0 → IsWhole outcome × TookAll sink outcome.pieces
  -- Status 7: the device failed before anything was asked; or at a grant, and the block that ends there was taken.
  pub halted : status ≡ 7 → HasFailedEarly seen sink outcome ⊎ (IsHalted outcome × TookAll sink outcome.pieces)
  -- Status 8: a prefix of what one of these or an early end prints was taken, and the disk is as that says.
  pub cut : status ≡ 8 → IsCut sink outcome.pieces × (IsEarlyEnd outcome ⊎ (IsWhole outcome ⊎ IsHalted outcome))
  -- Any other status is that of an early end, whose line was taken; and it adds nothing.
  pub ended : status ≢ 0 → status ≢ 7 → status ≢ 8
      → IsEarlyEnd outcome × (status ≡ status_number outcome.status) × TookAll sink outcome.pieces
  -- With every status: a disk that stood for grants stands for them and a prefix of those that the outcome adds, the one whose writing
  -- failed last, and so does each file that a crash at any moment since entry leaves.
  pub crash : KeepsGrants seen outcome walk
