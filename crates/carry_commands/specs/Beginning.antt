-- How a `begin` comes about.
use Rattle.std.specs.Prelude.{◌≡◌, List, [], Result, Ok, Err, ℕ}
use Rattle.cell_base.specs.declared.cells.Cell.{Cell}
use Rattle.cell_base.specs.declared.requests.Request.{Request}
use Rattle.cell_base.specs.declared.shifts.Grant.{Grant}
use Rattle.durable_cell.specs.declared.replays.TheConstants.{MAX_ROOM}
use Rattle.cell_walks.specs.Allowed.{AtOpening, StandsForAdded}
use Rattle.cell_walks.specs.DiskTold.{DiskTold}
use Rattle.cell_walks.specs.Walks.{refusal_of}
use Rattle.cell_walks.specs.declared.early_end.EarlyEnd.{EarlyEnd}
use Rattle.cell_walks.specs.declared.early_end.EarlyEnd.TheVariants.{WantOfMemory, Refused}
use Rattle.journal_texts.specs.Recorded.{recorded_outcome}
use Rattle.cell_texts.specs.Tests.{KnownCell}
use Rattle.journal_texts.specs.Tests.{to_add}
use Rattle.journal_texts.specs.declared.recorded.Recorded.{Recorded}
use Rattle.carry_commands.specs.Begin.{IsBegun}
use Rattle.record_text.specs.Fitting.{RefusalFits}
use Rattle.carry_commands.specs.Refusals.{IsOfPlace, other_start, start_refused}
use Rattle.carry_commands.specs.Starts.{ArePrefix, IsOtherStart, begun, granted_start, grants_start}
use Rattle.carry_commands.specs.declared.refusals.StartFault.{StartFault}

-- ---- how a `begin` comes about

-- the start of this cell is granted in turn
abbrev pub IsGrantedStart : Cell → List Request → Type 0
IsGrantedStart cell requests = granted_start cell requests ≡ Ok tt

-- a request of it is not, for one of the two reasons for which a place may be refused
pub record IsRefusedStart (cell : Cell) (requests : List Request) (fault : StartFault) : Type 0 where
  pub is : granted_start cell requests ≡ Err fault
  pub place : IsOfPlace fault.why
  pub fits : RefusalFits cell fault.why

-- an end at the start: a request of it is refused, or memory is wanting
pub data EndsBeforeJournal (cell : Cell) (requests : List Request) (end : EarlyEnd) : Type 0 where
  StartRefused : (fault : StartFault) → granted_start cell requests ≡ Err fault
      → end ≡ Refused (refusal_of (grants_start cell requests) (start_refused cell fault)) → EndsBeforeJournal cell requests end
  StartStarved : end ≡ WantOfMemory → EndsBeforeJournal cell requests end

-- the grants of the journal are a prefix of the start and the others were asked, or the command ended there and nothing was added
abbrev pub HasBegun : DiskTold → Cell → List ℕ → List Request → List Grant → Result Recorded EarlyEnd → Type 0
HasBegun disk cell text requests opening (Ok recorded) = let outcome = recorded_outcome recorded in
    ArePrefix requests opening × IsBegun cell requests opening outcome × StandsForAdded disk text opening outcome.added outcome.unsure
HasBegun disk cell text requests opening (Err end) =
    ((at : ℕ) × IsOtherStart requests opening at × (end ≡ Refused (refusal_of (begun requests opening) (other_start at))))
    × StandsForAdded disk text opening [] []

-- the journal of this cell was opened and begun, or the command ended there
abbrev pub IsBegunOnJournal : DiskTold → KnownCell → List Request → Result Recorded EarlyEnd → Type 0
IsBegunOnJournal disk held requests made = AtOpening disk (to_add held MAX_ROOM) (λ end. made ≡ Err end)
    (λ opening. HasBegun disk held.cell held.text requests opening made)
