-- How a `carry` comes about: the parts of a core that were carried, or where the command ended.
use Rattle.std.specs.Prelude.{◌≡◌, ◌≤◌, List, length, map, Ok, Err}
use Rattle.std.specs.List.{All}
use Rattle.admission_core.specs.CoreState.{CoreState}
use Rattle.cell_base.specs.declared.cells.Cell.{Cell}
use Rattle.cell_base.specs.declared.requests.Part.{Part}
use Rattle.cell_base.specs.declared.requests.Request.{Request}
use Rattle.cell_base.specs.declared.shifts.Grant.{Grant}
use Rattle.cell_base.specs.Histories.{replay}
use Rattle.record_text.specs.StartFiles.{IsPlacing, place_line}
use Rattle.record_text.specs.declared.start.TheConstants.{MAX_START_LINES}
use Rattle.cell_walks.specs.Allowed.{IsNotOpened, IsOpenedAs}
use Rattle.cell_walks.specs.DiskTold.{DiskTold}
use Rattle.cell_walks.specs.Outcomes.{Outcome, done}
use Rattle.cell_walks.specs.Walks.{Journal, refusal_of}
use Rattle.cell_walks.specs.declared.early_end.EarlyEnd.{EarlyEnd}
use Rattle.cell_walks.specs.declared.early_end.EarlyEnd.TheVariants.{WantOfMemory, Refused}
use Rattle.carry_commands.specs.Carried.{carried}
use Rattle.carry_commands.specs.CarriedState.{IsHindrance}
use Rattle.carry_commands.specs.Carry.{carries}
use Rattle.carry_commands.specs.Refusals.{carry_refused}
use Rattle.carry_commands.specs.declared.carrying.Carried.{Carried}
use Rattle.carry_commands.specs.declared.refusals.CarryFault.{CarryFault}

-- these requests place the parts of a core in the other cell, so few that they have a start file
pub record AreCarried (old : CoreState) (new : Cell) (requests : List Request) : Type 0 where
  pub is : carried old.cell new old.parts ≡ Ok requests
  pub placing : All (IsPlacing new) requests
  pub few : length requests ≤ MAX_START_LINES

-- the requests of a core that was carried, and the other cell
pub record HasCarried (old : CoreState) (new : Cell) (made : Carried) : Type 0 where
  pub cell : made.core.cell ≡ new
  pub carried : AreCarried old new made.requests

-- an end at the parts: one of them can't be carried, or memory is wanting
pub data EndsAtCarry (old new : Cell) (parts : List Part) (end : EarlyEnd) : Type 0 where
  CarryRefused : (fault : CarryFault) → carried old new parts ≡ Err fault → IsHindrance fault.why
      → end ≡ Refused (refusal_of (carries old new parts) (carry_refused new fault)) → EndsAtCarry old new parts end
  CarryStarved : end ≡ WantOfMemory → EndsAtCarry old new parts end

-- the parts after the grants of a journal that was opened were carried
pub record HasCarriedAfter (disk : DiskTold) (journal : Journal) (new : Cell) (made : Carried) : Type 0 where
  pub grants : List Grant
  pub opened : IsOpenedAs disk journal grants
  pub has : HasCarried (record { cell = journal.cell; parts = replay journal.cell grants }) new made

-- the journal was not opened, or its parts were not carried
pub data EndsAfter (disk : DiskTold) (journal : Journal) (new : Cell) (end : EarlyEnd) : Type 0 where
  Unopened : IsNotOpened disk journal end → EndsAfter disk journal new end
  NotCarried : (grants : List Grant) → IsOpenedAs disk journal grants → EndsAtCarry journal.cell new (replay journal.cell grants) end
      → EndsAfter disk journal new end

-- the line of each request
abbrev pub carry_outcome : Carried → Outcome
carry_outcome made = done (map (place_line made.core.cell) made.requests)
