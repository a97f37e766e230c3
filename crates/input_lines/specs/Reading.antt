-- How far a text is read, line by line.
use Rattle.std.specs.Prelude.{◌≡◌, ◌+◌, ◌≤◌, ℕ, suc, List, [], ◌++◌, length, take, drop, slice_range, Option, Some, None}
use Rattle.std.specs.Io.KnownBytes.{Appends}
use Rattle.input_lines.specs.Lines.{lines_after, whole_lines}

-- The line at hand, the bytes that are kept of the line that has begun, and those after them that were read.
pub record LinesState : Type 0 where
  pub begun : List ℕ
  pub ahead : List ℕ
  pub line : List ℕ

-- the same, of a piece that is read from one place to another
abbrev pub reading : List ℕ → ℕ → ℕ → List ℕ → List ℕ → LinesState
reading piece at end begun line = record { begun = begun; ahead = slice_range piece at end; line = line }

-- a line stands from one place of a piece to another, or its first bytes do
abbrev pub StandsIn : List ℕ → ℕ × ℕ → Type 0
StandsIn piece place = (place.0 ≤ place.1) × (place.1 ≤ length piece) × (place.1 ≤ place.0 + 67)

-- the line at hand: it stands in the piece, or it is kept
abbrev pub line_at_hand : List ℕ → Option (ℕ × ℕ) → List ℕ → List ℕ
line_at_hand piece (Some place) kept = slice_range piece place.0 place.1
line_at_hand piece None kept = kept

-- The line was taken that ends so many bytes ahead, and its newline with it.
pub record IsLineTaken (count : ℕ) (old new : LinesState) : Type 0 where
  pub begun : new.begun ≡ []
  pub ahead : new.ahead ≡ drop (suc count) old.ahead
  pub line : new.line ≡ take 67 (old.begun ++ take count old.ahead)

-- Of this text these lines were given: whatever comes after it, its other whole lines are those of what was read and of that.
pub record AreLinesSoFar (text : List ℕ) (given : List (List ℕ)) (lines : LinesState) : Type 0 where
  pub begun : List ℕ
  pub kept : lines.begun ≡ take 67 begun
  pub goes_on : (more : List ℕ) → whole_lines (text ++ more) ≡ given ++ lines_after begun (lines.ahead ++ more)

-- The source gave a piece of so many bytes: it is ahead, and comes after the text that was read.
pub record GivesPiece (before after : Option (List ℕ)) (old new : LinesState) (count : ℕ) : Type 0 where
  pub piece : List ℕ
  pub count_is : length piece ≡ count
  pub came : Appends before after piece
  pub ahead_is : new.ahead ≡ piece
  pub reads : (text : List ℕ) (given : List (List ℕ)) → AreLinesSoFar text given old → AreLinesSoFar (text ++ piece) given new
