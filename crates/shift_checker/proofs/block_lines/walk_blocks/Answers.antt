-- One block more is right, or it has the first line that fails.
use Rattle.std.proofs.Common.{◌≡◌, ℕ, ◌+◌, ◌<◌, ◌∷◌, ◌++◌, [], List, length, take, drop, append-nil, sym, ap, ◌∙◌, subst, arith}
use Rattle.std.specs.List.{sum_by}
use Rattle.std.proofs.lemmas.List.{take_all, take_more, take-append-drop}
use Rattle.cell_base.specs.declared.cells.Cell.{Cell}
use Rattle.record_text.specs.declared.blocks.Block.{Block}
use Rattle.record_text.specs.declared.stages.Stage.TheVariants.{Between}
use Rattle.record_text.specs.Blocks.{line_count}
use Rattle.shift_checker.specs.Carrying.{unbegun, carried_lines}
use Rattle.shift_checker.specs.Judging.{verdict_from}
use Rattle.shift_checker.specs.Lines.{IsWalked, judged}
use Rattle.shift_checker.proofs.BlockLines.{lines_behind}
use Rattle.shift_checker.proofs.Numbers.{first_line_is, lines_after, lines_fit}
use Rattle.shift_checker.proofs.Verdicts.{wrong_after}
use Rattle.shift_checker.proofs.block_lines.walk_blocks.Goals as goal

pub walk_block-verdict-requires-clause-lines : goal.walk_block-verdict-requires-clause-lines
walk_block-verdict-requires-clause-lines c =
    rw c.block-item.is
    (lines_fit c.args.blocks.now c.loop-block.block-index c.block-item.result (omega (arith, c.loop-block-test.true))
    c.requires.formed.numbered c.requires.formed.lines)

pub walk_block-verdict-requires-clause-walked : goal.walk_block-verdict-requires-clause-walked
walk_block-verdict-requires-clause-walked c =
    let blocks = c.args.blocks.now in
    let i = c.loop-block.block-index in
    let item = c.block-item.result in
    let first =
    ap (λ (b : Block). b.first_line) c.block-item.is
    ∙ first_line_is blocks i item (omega (arith, c.loop-block-test.true)) c.requires.formed.numbered in
    (take i blocks, subst (λ (n : ℕ). IsWalked n (take i blocks, Between) c.loop-block.walk) (sym first) c.loop-block.invariant.walked)

pub returns-in-No : goal.returns-in-No
returns-in-No c =
    let blocks = c.args.blocks.now in
    let i = c.loop-block.block-index in
    let item = c.block-item.result in
    let cell = c.args.walk.now.cell in
    let within : i < length blocks = omega (arith, c.loop-block-test.true) in
    let first =
    ap (λ (b : Block). b.first_line) c.block-item.is
    ∙ first_line_is blocks i item within c.requires.formed.numbered in
    let more : take (i + 1) blocks ≡ take i blocks ++ item ∷ [] =
    take_more blocks i item within ∙ ap (λ (b : Block). take i blocks ++ b ∷ []) (sym c.block-item.is) in
    let says =
    c.walk_block-verdict.ensures.verdict (take i blocks)
    (subst (λ (n : ℕ). IsWalked n (take i blocks, Between) c.loop-block.walk) (sym first) c.loop-block.invariant.walked)
    ∙ ap (λ (cell : Cell). verdict_from 1 (judged cell (take i blocks ++ item ∷ [], Between))) c.loop-block.invariant.cell
    ∙ ap (verdict_from 1) (append-nil (carried_lines cell unbegun (take i blocks ++ item ∷ [])))
    ∙ ap (λ (bs : List Block). verdict_from 1 (carried_lines cell unbegun bs)) (sym more) in
    c.in-No.is
    ∙ sym
    (ap (λ (bs : List Block). verdict_from 1 (carried_lines cell unbegun bs)) (sym (take-append-drop (i + 1) blocks))
    ∙ ap (verdict_from 1) (lines_behind cell unbegun (take (i + 1) blocks) (drop (i + 1) blocks))
    ∙ wrong_after 1 (carried_lines cell unbegun (take (i + 1) blocks)) _ c.in-No.line c.in-No.why (sym says ∙ c.in-No.is))

pub loop-block-preserved : goal.loop-block-preserved
loop-block-preserved c =
    let blocks = c.args.blocks.now in
    let i = c.loop-block.block-index in
    let item = c.block-item.result in
    let cell = c.args.walk.now.cell in
    let within : i < length blocks = omega (arith, c.loop-block-test.true) in
    let first =
    ap (λ (b : Block). b.first_line) c.block-item.is
    ∙ first_line_is blocks i item within c.requires.formed.numbered in
    let more : take (i + 1) blocks ≡ take i blocks ++ item ∷ [] =
    take_more blocks i item within ∙ ap (λ (b : Block). take i blocks ++ b ∷ []) (sym c.block-item.is) in
    let number : item.first_line + line_count item ≡ 1 + sum_by line_count (take (i + 1) blocks) =
    omega (arith, first, lines_after blocks i item within c.requires.formed.numbered, ap line_count c.block-item.is) in
    record {
      cell = c.walk_block-verdict.ensures.cell ∙ c.loop-block.invariant.cell;
      walked =
          subst (λ (n : ℕ). IsWalked n (take (i + 1) blocks, Between) c.walk_block-verdict.new.walk) number
          (subst (λ (bs : List Block). IsWalked (item.first_line + line_count item) (bs, Between) c.walk_block-verdict.new.walk) (sym more)
          (c.walk_block-verdict.ensures.walked (take i blocks)
          (subst (λ (n : ℕ). IsWalked n (take i blocks, Between) c.loop-block.walk) (sym first) c.loop-block.invariant.walked)
          c.in_default.is));
    }

pub returns : goal.returns
returns c =
    let blocks = c.args.blocks.now in
    let here = c.loop-block in
    let all : take here.block-index blocks ≡ blocks = take_all here.block-index blocks (omega (arith, c.loop-block-test.false)) in
    sym here.invariant.walked.right
    ∙ ap (λ (cell : Cell). verdict_from 1 (judged cell (take here.block-index blocks, Between))) here.invariant.cell
    ∙ ap (verdict_from 1) (append-nil (carried_lines c.args.walk.now.cell unbegun (take here.block-index blocks)))
    ∙ ap (λ (bs : List Block). verdict_from 1 (carried_lines c.args.walk.now.cell unbegun bs)) all
