-- Grants that are replayed, and what the bytes of a disk open as.
use Rattle.std.specs.Prelude.{◌≡◌, ℕ, ◌+◌, Bool, true, ◌&&◌, ◌||◌, if◌then◌else◌, nat_lt}
use Rattle.std.specs.Prelude.{Option, Some, None, Result, Ok, Err, List, [], ◌∷◌, length}
use Rattle.std.specs.List.{All}
use Rattle.std.specs.Option.{option_map_or}
use Rattle.cell_base.specs.declared.cells.Cell.{Cell}
use Rattle.cell_base.specs.declared.limits.TheConstants.{MAX_BRANCHES}
use Rattle.cell_base.specs.declared.requests.Part.{Part}
use Rattle.cell_base.specs.declared.requests.Request.{Request}
use Rattle.cell_base.specs.declared.requests.Request.TheVariants.{Load, Process, Move, Unload, Place}
use Rattle.cell_base.specs.declared.shifts.Grant.{Grant}
use Rattle.cell_base.specs.Fits.{RequestFits}
use Rattle.cell_base.specs.Histories.{is_granted, is_replay}
use Rattle.cell_base.specs.Outcomes.{reply_to, state_after}
use Rattle.cell_base.specs.Stages.{stage, is_stage, works_at}
use Rattle.entry_codec.specs.declared.encoder.TheConstants.{ENTRY_SIZE}
use Rattle.journal_format.specs.declared.head.TheConstants.{TEXT_AT}
use Rattle.journal_format.specs.declared.fault.JournalFault.{JournalFault}
use Rattle.journal_format.specs.declared.fault.JournalFault.TheVariants.{Damaged}
use Rattle.journal_format.specs.Readings.{read_as}

-- a request whose numbers are in range, as a test
abbrev pub is_fit : Cell → Request → Bool
is_fit cell (Load job kind) = nat_lt kind.0 (length cell.types)
is_fit cell (Process machine) = nat_lt machine.0 (length cell.resources)
is_fit cell (Move job branch) = nat_lt branch MAX_BRANCHES
is_fit cell (Unload job) = true
is_fit cell (Place done kind job place) = is_stage cell (stage kind.0 place) && (works_at cell (stage kind.0 place) || done)

-- it fits the cell and is granted in this state
abbrev pub is_due : Cell → List Part → Request → Bool
is_due cell parts request = is_fit cell request && is_granted (reply_to cell parts request)

-- where the gate of the first one that isn't stands, of grants in turn from a state on, whose first gate stands at an offset
abbrev pub first_stray : Cell → List Part → ℕ → List Grant → Option ℕ
first_stray cell parts at [] = None
first_stray cell parts at (grant ∷ grants) =
    if is_due cell parts grant.request then first_stray cell (state_after cell parts grant.request) (at + ENTRY_SIZE) grants else Some at

-- the grants of a journal with this cell text, replayed: the first one that strays is damage
abbrev pub replayed : Cell → List ℕ → List Grant → Result (List Grant) JournalFault
replayed cell text grants = option_map_or (λ at. Err (Damaged at)) (first_stray cell [] (TEXT_AT + length text) grants) (Ok grants)

-- what the bytes are read as, replayed; a blank file has no grants
abbrev pub replayed_reading : Cell → List ℕ → Result (Option (List Grant)) JournalFault → Result (List Grant) JournalFault
replayed_reading cell text (Err why) = Err why
replayed_reading cell text (Ok None) = Ok []
replayed_reading cell text (Ok (Some grants)) = replayed cell text grants

-- What the bytes of a disk open as, for a cell with its text and with room for so many grants: the grants, or a fault.
abbrev pub opened_as : Cell → List ℕ → List ℕ → ℕ → Result (List Grant) JournalFault
opened_as cell bytes text room = replayed_reading cell text (read_as bytes text room)

-- grants that fit the cell, each of which is granted in its turn
pub record AreDue (cell : Cell) (grants : List Grant) : Type 0 where
  pub fit : All (λ (grant : Grant). RequestFits cell grant.request) grants
  pub granted : is_replay cell grants ≡ true
