-- A history with the lines after it is a block.
use Rattle.std.proofs.Common.{◌≡◌, ℕ, List, ◌++◌, refl}
use Rattle.cell_base.specs.declared.cells.Cell.{Cell}
use Rattle.cell_base.specs.declared.requests.Request.{Request}
use Rattle.record_printer.specs.Blocks.{left_lines}
use Rattle.hybrid_rounds.specs.declared.entries.HybridEntry.{HybridEntry}
use Rattle.hybrid_command.specs.Lines.{history_lines, hybrid_block}

pub block_is : (cell : Cell) (shift : ℕ) (history : List HybridEntry) (left : ℕ) (plan : List Request)
    → history_lines cell shift history ++ left_lines cell left plan ≡ hybrid_block cell shift history left plan
unfolding hybrid_block
block_is cell shift history left plan = refl
