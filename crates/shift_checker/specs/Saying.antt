-- The lines of a block, each as what it says.
use Rattle.std.specs.Prelude.{List, [], ◌∷◌, ◌++◌, length, map}
use Rattle.record_text.specs.declared.blocks.Block.{Block}
use Rattle.record_text.specs.declared.blocks.Tail.{Tail}
use Rattle.record_text.specs.declared.blocks.Tail.TheVariants as tails
use Rattle.record_text.specs.declared.record_lines.RecordLine.{RecordLine}
use Rattle.record_text.specs.declared.record_lines.RecordLine.TheVariants as lines

-- what stands after the entries
abbrev pub tail_says : Tail → List RecordLine
tail_says (tails.Planned left steps) = lines.Left left ∷ lines.Plan (length steps) ∷ map lines.Step steps
tail_says tails.Halted = []

-- all its lines
abbrev pub block_says : Block → List RecordLine
block_says block = lines.Head block.shift block.after ∷ (map lines.Entry block.entries ++ tail_says block.tail)
