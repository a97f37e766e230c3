-- The lines so far are right, and the walk is past them.
use Rattle.std.proofs.Common.{◌≡◌, ◌+◌, take, List}
use Rattle.record_text.specs.declared.blocks.Block.{Block}
use Rattle.record_text.specs.declared.stages.Stage.TheVariants.{Between}
use Rattle.shift_checker.specs.Lines.{IsWalked}
use Rattle.shift_checker.specs.Saying.{block_says}
use Rattle.shift_checker.proofs.Following.{with_lines}
use Rattle.shift_checker.proofs.block_lines.walk_block.Given as goal

abbrev pub invariant-loop-at : goal.invariant-loop-at
invariant-loop-at l = record {
  cell : l.walk.cell ≡ l.fn.walk.cell;
  walked :
      (given : List Block) → IsWalked l.block.first_line (given, Between) l.fn.walk
      → IsWalked (l.block.first_line + l.at) (with_lines l.block.first_line (given, Between) (take l.at (block_says l.block))) l.walk;
}
