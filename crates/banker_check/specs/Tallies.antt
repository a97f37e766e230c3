-- The parts of a cell with the numbers that run along with them.
use Rattle.std.specs.Prelude.{◌≡◌, ℕ, List, slice_index_or}
use Rattle.std.specs.Option.{option_map_or}
use Rattle.cell_base.specs.declared.cells.Cell.{Cell}
use Rattle.cell_base.specs.declared.requests.JobId.{JobId}
use Rattle.cell_base.specs.declared.requests.Part.{Part}
use Rattle.cell_base.specs.Stages.{IsStage, stage_of}
use Rattle.cell_base.specs.Neighborhoods.{mask_of, count}
use Rattle.cell_base.specs.Policy.{IsState}
use Rattle.cell_base.specs.Outcomes.{part_of}
use Rattle.banker_check.specs.declared.counts.Arrival.{Arrival}
use Rattle.banker_check.specs.declared.tally.Tally.{Tally}

-- the numbers are those of the parts in the neighborhoods
abbrev pub AreCountsOfParts : Cell → List Part → List ℕ → Type 0
AreCountsOfParts cell parts counts = (r : ℕ) → slice_index_or counts r 0 ≡ count cell parts r

-- the parts are a state, and the running numbers are theirs
pub record IsTallied (cell : Cell) (tally : Tally) : Type 0 where
  pub state : IsState cell tally.parts.items
  pub counts : AreCountsOfParts cell tally.parts.items tally.counts

-- the neighborhoods of a job's part, and none where the job has no part
abbrev pub mask_of_job : Cell → List Part → JobId → ℕ
mask_of_job cell parts job = option_map_or (λ part. mask_of cell (stage_of part)) (part_of parts job) 0

-- a part comes to a stage in the place of its job's present one: the masks of that one's stage and of its own
pub record IsArrival (cell : Cell) (parts : List Part) (arrival : Arrival) : Type 0 where
  pub stage : IsStage cell (stage_of arrival.part)
  pub from : arrival.from ≡ mask_of_job cell parts arrival.part.job
  pub to : arrival.to ≡ mask_of cell (stage_of arrival.part)
