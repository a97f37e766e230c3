-- A start file: a line for each part that stands in a cell already, by the request that places it.
use Rattle.std.specs.Prelude.{◌≡◌, ℕ, ◌+◌, ◌^◌, ◌<◌, ◌≤◌, ◌⊎◌, List, ◌++◌, length, Result, Ok, Err, ⊤}
use Rattle.std.specs.List.{All, flat_map}
use Rattle.cell_base.specs.declared.cells.Cell.{Cell}
use Rattle.cell_base.specs.declared.requests.Request.{Request}
use Rattle.cell_base.specs.declared.requests.Request.TheVariants.{Place}
use Rattle.cell_base.specs.Fits.{CellFits, PlaceFits}
use Rattle.step_text.specs.Steps.{request_words}
use Rattle.record_text.specs.Lines.{line_of}
use Rattle.record_text.specs.declared.record.RecordFault.{RecordFault}
use Rattle.record_text.specs.declared.record.RecordFault.TheVariants.{Bad, Memory}
use Rattle.record_text.specs.declared.start.TheConstants.{MAX_START_BYTES, MAX_START_LINES}

-- a request that places a part of a job, a number of 32 bits, at a place of the cell
abbrev pub IsPlacing : Cell → Request → Type 0
IsPlacing cell (Place done kind job place) = PlaceFits cell kind place done × (job.0 < 2 ^ 32)
IsPlacing cell request = ⊥

-- its line
abbrev pub place_line : Cell → Request → List ℕ
place_line cell request = line_of (request_words cell request)

-- their lines, one after the other
abbrev pub start_text : Cell → List Request → List ℕ
start_text cell requests = flat_map (place_line cell) requests

-- the bytes are the lines of these requests, and both are few enough; there may be none
pub record IsStartOf (cell : Cell) (bytes : List ℕ) (requests : List Request) : Type 0 where
  pub short : length bytes ≤ MAX_START_BYTES
  pub few : length requests ≤ MAX_START_LINES
  pub placing : All (IsPlacing cell) requests
  pub text : bytes ≡ start_text cell requests

-- the n-th line is bad: the lines of requests stand before it, and after these stands something that doesn't begin with the line of a
-- request; or they are as many as there may be
pub record IsBadStartLine (cell : Cell) (bytes : List ℕ) (n : ℕ) : Type 0 where
  pub before : List Request
  pub rest : List ℕ
  pub placing : All (IsPlacing cell) before
  pub few : length before ≤ MAX_START_LINES
  pub text : bytes ≡ start_text cell before ++ rest
  pub number : n ≡ length before + 1
  pub some : 1 ≤ length rest
  pub bad : length before < MAX_START_LINES → (request : Request) (more : List ℕ) → IsPlacing cell request
      → rest ≡ place_line cell request ++ more → ⊥

-- why bytes are refused: there are too many, or they have a bad line
abbrev pub StartRefusedAt : Cell → List ℕ → RecordFault → Type 0
StartRefusedAt cell bytes (Bad line) =
    ((MAX_START_BYTES < length bytes) × (line ≡ 0)) ⊎ ((length bytes ≤ MAX_START_BYTES) × IsBadStartLine cell bytes line)
StartRefusedAt cell bytes Memory = ⊤

-- the bytes are the lines of these requests, of a cell that fits, or this line of them is bad
abbrev pub start_reads : Cell → List ℕ → Result (List Request) RecordFault → Type 0
start_reads cell bytes (Ok requests) = CellFits cell × IsStartOf cell bytes requests
start_reads cell bytes (Err (Bad line)) = CellFits cell × StartRefusedAt cell bytes (Bad line)
start_reads cell bytes (Err Memory) = ⊥
