-- An entry or a line of the tail stands after the head.
use Rattle.std.proofs.Common.{◌-◌, arith, ap, ◌∙◌}
use Rattle.std.specs.List.{slice_get}
use Rattle.shift_checker.specs.Saying.{tail_says}
use Rattle.shift_checker.proofs.Following.{entry_there, tail_there}
use Rattle.shift_checker.proofs.block_lines.line_of.Goals as goal

pub returns-then-at-entries : goal.returns-then-at-entries
returns-then-at-entries c =
    entry_there c.args.block.now c.args.at c.get.result.now (omega (arith, c.if-at-eq0.false)) c.get.ensures

pub returns : goal.returns
returns c =
    tail_there c.args.block.now c.args.at c.line_of_tail.result
    (omega (arith, c.if-at-entries.false, c.len-entries.ensures))
    (c.line_of_tail.ensures
    ∙ ap (λ n. slice_get (tail_says c.args.block.now.tail) (c.args.at - 1 - n)) c.len-entries.ensures)
