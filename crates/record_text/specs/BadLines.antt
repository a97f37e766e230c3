-- Which bytes are a record, and the first line of other bytes that is bad.
use Rattle.std.specs.Prelude.{◌≡◌, ◌≢◌, ℕ, ◌+◌, ◌<◌, ◌≤◌, ◌==◌, ◌⊎◌, Bool, List, [], ◌∷◌, ◌++◌, length, ⊤}
use Rattle.std.specs.List.{flat_map, slice_split}
use Rattle.cell_base.specs.declared.cells.Cell.{Cell}
use Rattle.record_text.specs.declared.blocks.Block.{Block}
use Rattle.record_text.specs.declared.record.TheConstants.{MAX_RECORD_BYTES}
use Rattle.record_text.specs.declared.record.RecordFault.{RecordFault}
use Rattle.record_text.specs.declared.record.RecordFault.TheVariants.{Bad, Memory}
use Rattle.record_text.specs.Blocks.{AreBlocks}
use Rattle.record_text.specs.Records.{text_of_blocks}

-- the byte after a line
abbrev pub is_newline : ℕ → Bool
is_newline b = b == 10

-- what stands between the newlines, before the first and after the last
abbrev pub pieces : List ℕ → List (List ℕ)
pieces bytes = slice_split is_newline bytes

-- lines with a newline after each
abbrev pub text_of_lines : List (List ℕ) → List ℕ
text_of_lines lines = flat_map (λ line. line ++ 10 ∷ []) lines

-- some record file begins with these lines
abbrev pub IsFront : Cell → List (List ℕ) → Type 0
IsFront cell lines =
    (blocks : List Block) × (more : List ℕ) × AreBlocks cell blocks × (text_of_blocks cell blocks ≡ text_of_lines lines ++ more)

-- the n-th line is bad: a record file may begin with the lines before it, but not with them and it. What stands after the last
-- newline is no line, so its number is that of a line which is missing or has no newline
pub record IsBadLine (cell : Cell) (bytes : List ℕ) (n : ℕ) : Type 0 where
  pub before : List (List ℕ)
  pub line : List ℕ
  pub later : List (List ℕ)
  pub split : pieces bytes ≡ before ++ line ∷ later
  pub number : n ≡ length before + 1
  pub front : IsFront cell before
  pub bad : 1 ≤ length later → ¬ IsFront cell (before ++ line ∷ [])
  pub none : (blocks : List Block) → AreBlocks cell blocks → bytes ≢ text_of_blocks cell blocks

-- the bytes are the text of these blocks, and few enough
pub record IsRecordOf (cell : Cell) (bytes : List ℕ) (blocks : List Block) : Type 0 where
  pub short : length bytes ≤ MAX_RECORD_BYTES
  pub written : AreBlocks cell blocks
  pub text : bytes ≡ text_of_blocks cell blocks

-- why bytes are refused: there are too many, or they have a bad line
abbrev pub RefusedAt : Cell → List ℕ → RecordFault → Type 0
RefusedAt cell bytes (Bad line) =
    ((MAX_RECORD_BYTES < length bytes) × (line ≡ 0)) ⊎ ((length bytes ≤ MAX_RECORD_BYTES) × IsBadLine cell bytes line)
RefusedAt cell bytes Memory = ⊤
