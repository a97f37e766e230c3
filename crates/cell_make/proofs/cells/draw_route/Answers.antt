-- One place more, by two draws, after the draw of the length.
use Rattle.std.proofs.Common.{◌+◌, ◌*◌, ◌++◌, ◌∷◌, [], List, ℕ, length, ap, ap₂, sym, ◌∙◌, arith}
use Rattle.cell_base.specs.declared.cells.Step.{Step}
use Rattle.cell_make.specs.Draws.{next_number}
use Rattle.cell_make.specs.Cells.{drawn_step}
use Rattle.cell_make.proofs.Sequences.{after-none, after-more, after-two_more}
use Rattle.cell_make.proofs.Lists.{steps-none, steps-more, length-steps}
use Rattle.cell_make.proofs.cells.draw_route.Goals as goal

pub loop-init : goal.loop-init
loop-init c =
    let x = c.args.draws.now.number in
    record {
      so_far = c.new-route.ensures ∙ sym (steps-none x);
      after = c.draw-end.ensures.after ∙ ap next_number (sym (after-none x)) ∙ sym (after-more x 0);
    }

pub loop-preserved : goal.loop-preserved
loop-preserved c =
    let x = c.args.draws.now.number in
    let n = c.loop.counter in
    let kept = c.loop.invariant in
    record {
      so_far =
          c.in_ok-try_push.ensures.ok
          ∙ ap₂ (λ (list : List Step) (one : Step). list ++ one ∷ []) kept.so_far (c.draw_place.ensures.value ∙ ap drawn_step kept.after)
          ∙ sym (steps-more x n);
      after =
          c.draw_place.ensures.after ∙ ap (λ (y : ℕ). next_number (next_number y)) kept.after
          ∙ sym (after-two_more x (1 + 2 * n) (1 + 2 * (n + 1)) (omega arith));
    }

pub returns-clause-length : goal.returns-clause-length
returns-clause-length c = ap length c.loop.invariant.so_far ∙ length-steps c.args.draws.now.number c.loop.counter
    ∙ omega (arith, c.draw-end.ensures.value)
