-- The blocks so far are right, and the walk is past them.
use Rattle.std.proofs.Common.{◌≡◌, ◌+◌, take}
use Rattle.std.specs.List.{sum_by}
use Rattle.record_text.specs.declared.stages.Stage.TheVariants.{Between}
use Rattle.record_text.specs.Blocks.{line_count}
use Rattle.shift_checker.specs.Lines.{IsWalked}
use Rattle.shift_checker.proofs.block_lines.walk_blocks.Given as goal

abbrev pub invariant-loop-block : goal.invariant-loop-block
invariant-loop-block l = record {
  cell : l.walk.cell ≡ l.fn.walk.cell;
  walked : IsWalked (1 + sum_by line_count (take l.block-index l.blocks)) (take l.block-index l.blocks, Between) l.walk;
}
