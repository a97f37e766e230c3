-- Each line of the block goes on.
use Rattle.std.proofs.Common.{◌≡◌, ◌+◌, ◌∷◌, ◌++◌, [], take, sym, ap, ◌∙◌, subst, arith, refl, ℕ}
use Rattle.std.proofs.lemmas.List.{take_all}
use Rattle.cell_base.specs.declared.cells.Cell.{Cell}
use Rattle.record_text.specs.declared.stages.Stage.TheVariants.{Between}
use Rattle.record_text.specs.Blocks.{line_count}
use Rattle.record_text.specs.Progress.{Reading}
use Rattle.record_text.specs.Turns.{LineFits, with_line}
use Rattle.shift_checker.specs.Judging.{verdict_from}
use Rattle.shift_checker.specs.Lines.{IsWalked, judged}
use Rattle.shift_checker.specs.Saying.{block_says}
use Rattle.shift_checker.proofs.Following.{with_lines, all_stay, block_leads, length-says, line_suits, line_there_fits, with_next}
use Rattle.shift_checker.proofs.block_lines.walk_block.Goals as goal

pub line-verdict-requires-clause-fits : goal.line-verdict-requires-clause-fits
line-verdict-requires-clause-fits c =
    subst (λ (cell : Cell). LineFits cell c.line_of.result) (sym c.loop-at.invariant.cell)
    (line_there_fits c.args.walk.now.cell c.args.block.now c.loop-at.at c.line_of.result c.requires.formed c.line_of.ensures)

pub line-verdict-requires-clause-walked : goal.line-verdict-requires-clause-walked
line-verdict-requires-clause-walked c =
    let block = c.args.block.now in
    let given = c.requires.walked.0 in
    let leads = block_leads given block c.requires.formed.halts in (
      with_lines block.first_line (given, Between) (take c.loop-at.at (block_says block)),
      c.loop-at.invariant.walked given c.requires.walked.1,
      line_suits block.first_line (given, Between) (block_says block) c.loop-at.at c.line_of.result leads.suit c.line_of.ensures,
    )

pub returns-in-No-clause-verdict : goal.returns-in-No-clause-verdict
returns-in-No-clause-verdict c = λ given is.
    let block = c.args.block.now in
    let here = c.loop-at in
    let cell = c.args.walk.now.cell in
    let leads = block_leads given block c.requires.formed.halts in
    let start : Reading = (given, Between) in
    let so_far : Reading = with_lines block.first_line start (take here.at (block_says block)) in
    let suits = line_suits block.first_line start (block_says block) here.at c.line_of.result leads.suit c.line_of.ensures in
    let says =
    c.line-verdict.ensures.verdict so_far (here.invariant.walked given is) suits
    ∙ ap (λ (cell : Cell). verdict_from 1 (judged cell (with_line (block.first_line + here.at) so_far.0 so_far.1 c.line_of.result)))
    here.invariant.cell
    ∙ ap (λ (r : Reading). verdict_from 1 (judged cell r))
    (sym (with_next block.first_line start (block_says block) here.at c.line_of.result c.line_of.ensures)) in
    c.in-No.is
    ∙ sym
    (all_stay cell block.first_line start (block_says block) (here.at + 1) c.in-No.line c.in-No.why leads.suit (sym says ∙ c.in-No.is))
    ∙ ap (λ (r : Reading). verdict_from 1 (judged cell r)) leads.there

pub loop-at-preserved : goal.loop-at-preserved
loop-at-preserved c =
    let block = c.args.block.now in
    let here = c.loop-at in
    record {
      cell = c.line-verdict.ensures.cell ∙ here.invariant.cell;
      walked = λ given is.
          let leads = block_leads given block c.requires.formed.halts in
          let start : Reading = (given, Between) in
          let so_far : Reading = with_lines block.first_line start (take here.at (block_says block)) in
          let suits = line_suits block.first_line start (block_says block) here.at c.line_of.result leads.suit c.line_of.ensures in
          let number : block.first_line + here.at + 1 ≡ block.first_line + (here.at + 1) = omega arith in
          subst (λ (n : ℕ). IsWalked n (with_lines block.first_line start (take (here.at + 1) (block_says block))) c.line-verdict.new.self)
          number
          (subst (λ (r : Reading). IsWalked (block.first_line + here.at + 1) r c.line-verdict.new.self)
          (sym (with_next block.first_line start (block_says block) here.at c.line_of.result c.line_of.ensures))
          (c.line-verdict.ensures.walked so_far (here.invariant.walked given is) suits c.in_default.is));
    }

pub returns-clause-walked : goal.returns-clause-walked
returns-clause-walked c = λ given is yes.
    let block = c.args.block.now in
    let here = c.loop-at in
    let leads = block_leads given block c.requires.formed.halts in
    let start : Reading = (given, Between) in
    let count : here.at ≡ line_count block = omega (arith, c.loop-at-test.false, c.line_count-at-end.ensures, here.auto.at-end) in
    let all : with_lines block.first_line start (take here.at (block_says block)) ≡ (given ++ block ∷ [], Between) =
    ap (with_lines block.first_line start) (take_all here.at (block_says block) (omega (arith, count, length-says block))) ∙ leads.there in
    subst (λ (r : Reading). IsWalked (block.first_line + line_count block) r here.walk) all
    (subst (λ (n : ℕ). IsWalked (block.first_line + n) (with_lines block.first_line start (take here.at (block_says block))) here.walk)
    count (here.invariant.walked given is))

pub returns-clause-verdict : goal.returns-clause-verdict
returns-clause-verdict c = λ given is.
    let end = returns-clause-walked c given is refl in
    sym end.right
    ∙ ap (λ (cell : Cell). verdict_from 1 (judged cell (given ++ c.args.block.now ∷ [], Between))) c.loop-at.invariant.cell
