-- The verdict of the walk is the judgement.
use Rattle.std.proofs.Common.{List, sym, ap, ◌∙◌, subst}
use Rattle.record_text.specs.declared.blocks.Block.{Block}
use Rattle.record_text.specs.Turns.{unread}
use Rattle.shift_checker.specs.Carrying.{unbegun, carried_lines}
use Rattle.shift_checker.specs.Judging.{verdict_from}
use Rattle.shift_checker.specs.Lines.{IsWalked, Walked}
use Rattle.shift_checker.proofs.Carrying.{judge_by_walk}
use Rattle.shift_checker.proofs.Judged.{begun}
use Rattle.shift_checker.proofs.checking.check.Goals as goal

pub walk_blocks-requires-clause-walked : goal.walk_blocks-requires-clause-walked
walk_blocks-requires-clause-walked c = subst (IsWalked 1 unread) (sym c.in_ok-walk.ensures) (begun c.args.cell.now)

pub returns : goal.returns
returns c =
    c.walk_blocks.ensures
    ∙ ap (λ (walk : Walked). verdict_from 1 (carried_lines walk.cell unbegun c.as_slice.result.now)) c.in_ok-walk.ensures
    ∙ ap (λ (blocks : List Block). verdict_from 1 (carried_lines c.args.cell.now unbegun blocks)) c.as_slice.ensures
    ∙ sym (judge_by_walk c.args.cell.now c.args.blocks.now c.requires.blocks.each)
