-- What a drain tells, each fact by itself: the cell was emptied, or the writing of a step halted.
use Rattle.std.specs.Prelude.{◌≡◌, ◌⊎◌, ℕ, List, [], ◌∷◌, ◌++◌, length, map, take, Ok}
use Rattle.std.specs.List.{concat}
use Rattle.outside_io.specs.Causes.{Rose}
use Rattle.cell_base.specs.declared.cells.Cell.{Cell}
use Rattle.cell_base.specs.declared.requests.Request.{Request}
use Rattle.cell_base.specs.declared.shifts.Grant.{Grant}
use Rattle.cell_base.specs.Histories.{replay}
use Rattle.cell_base.specs.Plans.{Drains, plan_of}
use Rattle.journal_format.specs.Journals.{StandsFor}
use Rattle.record_text.specs.Records.{text_of_record}
use Rattle.durable_cell.specs.declared.replays.TheConstants.{MAX_ROOM}
use Rattle.cell_walks.specs.Allowed.{IsOpenedAs}
use Rattle.cell_walks.specs.DiskTold.{DiskTold, IsNow, SinceEntry, StoodFor}
use Rattle.cell_walks.specs.Observed.{Observed, ShowsFile}
use Rattle.cell_walks.specs.Outcomes.{Outcome}
use Rattle.cell_walks.specs.declared.status.Status.TheVariants.{Done, DeviceFault}
use Rattle.cell_texts.specs.Tests.{KnownCell, cell_reads}
use Rattle.journal_texts.specs.Tests.{to_add}
use Rattle.journal_texts.specs.AskedSteps.{drained, drained_to, step_grant}

-- the file stands for the grants and for a prefix of these steps
abbrev pub StandsForSome : List ℕ → List Grant → List Request → List ℕ → Type 0
StandsForSome text grants steps file = (count : ℕ) × StandsFor file text (grants ++ map step_grant (take count steps))

-- Each step of the plan was granted, which empties the cell: their record is printed, and the disk stands for the grants and the steps.
pub record IsEmptied (disk : DiskTold) (cell : Cell) (text : List ℕ) (grants : List Grant) (outcome : Outcome) : Type 0 where
  pub drains : let left = replay cell grants in Drains cell left (plan_of cell left)
  pub status : outcome.status ≡ Done
  pub written : let left = replay cell grants in
      concat outcome.pieces ≡ text_of_record cell left 0 (length grants) (drained (plan_of cell left)) []
  pub added : outcome.added ≡ map step_grant (plan_of cell (replay cell grants))
  pub sure : outcome.unsure ≡ []
  pub stands : IsNow disk (λ file. StandsFor file text (grants ++ map step_grant (plan_of cell (replay cell grants))))
  pub any_moment : SinceEntry disk (StandsForSome text grants (plan_of cell (replay cell grants)))

-- The writing of a step halted after those that were granted: the block that ends there is printed, and the disk stands for the grants
-- and the steps without the halted one, or with it.
pub record IsHaltedDrain (disk : DiskTold) (cell : Cell) (text : List ℕ) (grants : List Grant) (outcome : Outcome) : Type 0 where
  pub first : List Request
  pub last : Request
  pub rest : List Request
  pub parted : plan_of cell (replay cell grants) ≡ first ++ last ∷ rest
  pub status : outcome.status ≡ DeviceFault
  pub written : concat outcome.pieces ≡ text_of_record cell (replay cell grants) 0 (length grants) (drained_to first last) []
  pub added : outcome.added ≡ map step_grant first
  pub unsure : outcome.unsure ≡ step_grant last ∷ []
  pub stands : IsNow disk (λ file. StandsFor file text (grants ++ map step_grant first)
      ⊎ StandsFor file text (grants ++ map step_grant (first ++ last ∷ [])))
  pub any_moment : SinceEntry disk (StandsForSome text grants (first ++ last ∷ []))
  pub cause : Rose disk.faults disk.faults_after

-- The file stands for a cell, and the journal for grants: where the disk stood for one list of grants, for these; and this is so of the
-- disk, of these, and of the outcome.
pub record IsDrainFrom (Told : DiskTold → Cell → List ℕ → List Grant → Outcome → Type 0) (seen : Observed) (cell_name : List ℕ)
    (outcome : Outcome) : Type 0 where
  pub held : KnownCell
  pub cell_read : ShowsFile seen.files cell_name (λ bytes. cell_reads bytes (Ok held))
  pub opening : List Grant
  pub opened : IsOpenedAs seen.disk (to_add held MAX_ROOM) opening
  pub stood : (grants : List Grant) → StoodFor seen.disk held.text grants → grants ≡ opening
  pub told : Told seen.disk held.cell held.text opening outcome
