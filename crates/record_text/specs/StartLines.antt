-- The lines of a start file, read one after the other.
use Rattle.std.specs.Prelude.{◌≡◌, ℕ, ◌+◌, ◌==◌, nat_lt, if◌then◌else◌, List, [], ◌∷◌, ◌++◌, length, Option, None, Result, Ok, Err, ⊤}
use Rattle.std.specs.Option.{option_map_or}
use Rattle.cell_base.specs.declared.cells.Cell.{Cell}
use Rattle.cell_base.specs.declared.requests.Request.{Request}
use Rattle.step_text.specs.Words.{words}
use Rattle.record_text.specs.Reading.{placing_of}
use Rattle.record_text.specs.declared.record.RecordFault.{RecordFault}
use Rattle.record_text.specs.declared.record.RecordFault.TheVariants.{Bad, Memory}
use Rattle.record_text.specs.declared.start.TheConstants.{MAX_START_LINES}

-- the same of a line that comes after those of so many requests
abbrev pub next_request : Cell → List Request → List ℕ → Option Request
next_request cell found line = if nat_lt (length found) MAX_START_LINES then placing_of cell (words line) else None

-- the requests of the pieces between newlines, after those that were found, or the number of the first bad line
abbrev pub read_from : Cell → List Request → List (List ℕ) → Result (List Request) ℕ
read_from cell found [] = Err (length found + 1)
read_from cell found (rest ∷ []) = if length rest == 0 then Ok found else Err (length found + 1)
read_from cell found (line ∷ next ∷ more) =
    option_map_or (λ request. read_from cell (found ++ request ∷ []) (next ∷ more)) (next_request cell found line) (Err (length found + 1))

-- the result is what reading gives, unless memory is wanting
abbrev pub GivesStart : Result (List Request) RecordFault → Result (List Request) ℕ → Type 0
GivesStart (Ok requests) read = read ≡ Ok requests
GivesStart (Err (Bad line)) read = read ≡ Err line
GivesStart (Err Memory) read = ⊤
