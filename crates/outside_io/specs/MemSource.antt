-- What a source in memory shows.
use Rattle.std.specs.Prelude.{◌≡◌, ℕ, ◌-◌, min, Bool, List, length}
use Rattle.outside_io.specs.Calls.{fails_next}

-- all bytes, those given so far, the most bytes of a piece, the numbers of the calls that are to fail, how many calls were made,
-- and how many of these were faults
pub record MemSourceState : Type 0 where
  pub bytes : List ℕ
  pub given : List ℕ
  pub piece : ℕ
  pub fails : List ℕ
  pub made : ℕ
  pub faults : ℕ

-- all bytes that it gives if it is asked often enough
abbrev pub source_bytes : MemSourceState → List ℕ
source_bytes source = source.bytes

-- those given so far
abbrev pub source_given : MemSourceState → List ℕ
source_given source = source.given

-- the most bytes of a piece
abbrev pub source_piece : MemSourceState → ℕ
source_piece source = source.piece

-- all of them are given
abbrev pub source_ended : MemSourceState → Type 0
source_ended source = source_given source ≡ source_bytes source

-- the numbers of the calls that are to fail
abbrev pub failing_reads : MemSourceState → List ℕ
failing_reads source = source.fails

-- how many calls were made
abbrev pub reads_made : MemSourceState → ℕ
reads_made source = source.made

-- how many calls were faults
abbrev pub source_faults : MemSourceState → ℕ
source_faults source = source.faults

-- the next call is one that is to fail
abbrev pub next_read_fails : MemSourceState → Bool
next_read_fails source = fails_next (failing_reads source) (reads_made source)

-- how many bytes the next call gives where there is room for so many: a piece, or what is left
abbrev pub next_length : MemSourceState → ℕ → ℕ
next_length source room = min (min (length (source_bytes source) - length (source_given source)) (source_piece source)) room
