-- One block more of those that a walk has gone over.
use Rattle.std.proofs.Common.{◌≡◌, List, [], ◌∷◌, ◌++◌, append_assoc, append-nil, refl, sym, ap, ◌∙◌, Option}
use Rattle.cell_base.specs.declared.cells.Cell.{Cell}
use Rattle.record_text.specs.declared.blocks.Block.{Block}
use Rattle.shift_checker.specs.declared.verdict.Why.{Why}
use Rattle.shift_checker.specs.Carrying.{Carried, settled, carried_on, after_blocks, carried_lines}
use Rattle.shift_checker.specs.Judging.{judge_block}

-- what is carried on from a block to which this is carried
abbrev pub next_at : Cell → Carried → Block → Carried
next_at cell at block = carried_on cell (settled cell at block.after) block

module _ (cell : Cell) where
  pub over_more : (at : Carried) (blocks : List Block) (block : Block)
      → after_blocks cell at (blocks ++ block ∷ []) ≡ next_at cell (after_blocks cell at blocks) block
  over_more at [] block = refl
  over_more at (first ∷ blocks) block = over_more (next_at cell at first) blocks block

  -- the lines of a block to which this is carried
  abbrev pub lines_at : Carried → Block → List (Option Why)
  lines_at at block = let begun = settled cell at block.after in judge_block cell begun.parts begun.count block

  pub lines_behind : (at : Carried) (blocks later : List Block)
      → carried_lines cell at (blocks ++ later) ≡ carried_lines cell at blocks ++ carried_lines cell (after_blocks cell at blocks) later
  lines_behind at [] later = refl
  lines_behind at (first ∷ blocks) later =
      ap (λ ls. lines_at at first ++ ls) (lines_behind (next_at cell at first) blocks later)
      ∙ sym (append_assoc (lines_at at first) (carried_lines cell (next_at cell at first) blocks)
      (carried_lines cell (after_blocks cell (next_at cell at first) blocks) later))

  pub lines_more : (at : Carried) (blocks : List Block) (block : Block)
      → carried_lines cell at (blocks ++ block ∷ []) ≡ carried_lines cell at blocks ++ lines_at (after_blocks cell at blocks) block
  lines_more at blocks block =
      lines_behind at blocks (block ∷ [])
      ∙ ap (λ ls. carried_lines cell at blocks ++ ls) (append-nil (lines_at (after_blocks cell at blocks) block))
