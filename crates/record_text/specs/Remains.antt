-- What is left of the bytes of a record after some of its blocks, or of its lines.
use Rattle.std.specs.Prelude.{◌≡◌, ℕ, ◌+◌, ◌≤◌, List, [], ◌++◌, length, Some}
use Rattle.std.specs.List.{All, sum_by}
use Rattle.cell_base.specs.declared.cells.Cell.{Cell}
use Rattle.record_text.specs.declared.blocks.Block.{Block}
use Rattle.record_text.specs.declared.record.TheConstants.{MAX_RECORD_BYTES}
use Rattle.record_text.specs.declared.record_lines.Turn.{Turn}
use Rattle.record_text.specs.declared.stages.Stage.TheVariants.{Between}
use Rattle.record_text.specs.BadLines.{pieces}
use Rattle.record_text.specs.Blocks.{BlockFits, AreNumbered, line_count}
use Rattle.record_text.specs.Progress.{Reading, lines_read}
use Rattle.record_text.specs.Records.{text_of_blocks}
use Rattle.record_text.specs.Turns.{turn_of}

-- bytes of a record of a cell, from the line of this number on
pub record Remains : Type 0 where
  pub cell : Cell
  pub number : ℕ
  pub bytes : List ℕ

-- so much is left of the bytes of a file after these blocks
pub record IsReadTo (left : Remains) (bytes : List ℕ) (given : List Block) : Type 0 where
  pub short : length bytes ≤ MAX_RECORD_BYTES
  pub fit : All (BlockFits left.cell) given
  pub numbered : AreNumbered 1 given
  pub number : left.number ≡ 1 + sum_by line_count given
  pub text : bytes ≡ text_of_blocks left.cell given ++ left.bytes

-- the same, with which line may come next
pub record LinesLeft : Type 0 where
  pub cell : Cell
  pub number : ℕ
  pub bytes : List ℕ
  pub turn : Turn

-- so much is left of the bytes of a file after its first lines, and this is what they say
pub record AreRead (left : LinesLeft) (bytes : List ℕ) (so_far : Reading) : Type 0 where
  pub short : length bytes ≤ MAX_RECORD_BYTES
  pub lines : List (List ℕ)
  pub split : pieces bytes ≡ lines ++ pieces left.bytes
  pub number : left.number ≡ 1 + length lines
  pub said : lines_read left.cell 1 [] Between lines ≡ Some so_far
  pub turn : left.turn ≡ turn_of so_far.1
