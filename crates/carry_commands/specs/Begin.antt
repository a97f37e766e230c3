-- `begin CELL START JOURNAL`: the requests of a start that the journal does not hold yet, asked by session 0 of shift 0.
use Rattle.std.specs.Prelude.{ℕ, List, length, drop}
use Rattle.cell_base.specs.declared.cells.Cell.{Cell}
use Rattle.cell_base.specs.declared.requests.Request.{Request}
use Rattle.cell_base.specs.declared.shifts.Grant.{Grant}
use Rattle.durable_cell.specs.declared.replays.TheConstants.{MAX_ROOM}
use Rattle.cell_walks.specs.Outcomes.{Outcome}
use Rattle.cell_walks.specs.Walks.{Walk, Tests, Opens, Answers}
use Rattle.cell_texts.specs.Tests.{KnownCell, cell_file}
use Rattle.journal_texts.specs.Tests.{to_add}
use Rattle.journal_texts.specs.AskedSteps.{AreAsked}
use Rattle.carry_commands.specs.Starts.{begun, grants_start, start_file}

-- the requests that are not granted yet
abbrev pub requests_left : List Request → List Grant → List Request
requests_left requests opening = drop (length opening) requests

-- the requests that the journal doesn't hold yet were asked
abbrev pub IsBegun : Cell → List Request → List Grant → Outcome → Type 0
IsBegun cell requests opening outcome = AreAsked cell opening (requests_left requests opening) outcome

-- what comes after the grants of the journal
abbrev pub goes_on : KnownCell → List Request → List Grant → Walk
goes_on held requests opening =
    Tests (begun requests opening) λ first.
    Answers λ input outcome. IsBegun held.cell requests opening outcome

-- its walk from the cell on
abbrev pub begin_start : List ℕ → KnownCell → Walk
begin_start start held =
    Tests (start_file held.cell start) λ requests.
    Tests (grants_start held.cell requests) λ granted.
    Opens (to_add held MAX_ROOM) (goes_on held requests)

-- the whole of it: the cell is read, and then the start
abbrev pub begin : List ℕ → List ℕ → Walk
begin cell start = Tests (cell_file cell) (begin_start start)
