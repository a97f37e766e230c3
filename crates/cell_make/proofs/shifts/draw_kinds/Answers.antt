-- One job more.
use Rattle.std.proofs.Common.{◌++◌, ◌∷◌, [], List, ℕ, ap, ap₂, sym, ◌∙◌}
use Rattle.cell_base.specs.declared.cells.TypeId.{TypeId}
use Rattle.cell_make.specs.Draws.{next_number, draw}
use Rattle.cell_make.proofs.Sequences.{after-none, after-more}
use Rattle.cell_make.proofs.Lists.{kinds-none, kinds-more}
use Rattle.cell_make.proofs.shifts.draw_kinds.Goals as goal

pub loop-init : goal.loop-init
loop-init c = record {
  so_far = c.new-kinds.ensures ∙ sym (kinds-none c.args.draws.now.number);
  after = sym (after-none c.args.draws.now.number);
}

pub loop-preserved : goal.loop-preserved
loop-preserved c =
    let x = c.args.draws.now.number in
    let n = c.loop.counter in
    let kept = c.loop.invariant in
    record {
      so_far =
          c.in_ok-try_push.ensures.ok
          ∙ ap₂ (λ (list : List TypeId) (one : ℕ). list ++ (record { 0 = one }) ∷ []) kept.so_far
          (c.draw.ensures.value ∙ ap (λ (y : ℕ). draw y 8) kept.after)
          ∙ sym (kinds-more x n);
      after = c.draw.ensures.after ∙ ap next_number kept.after ∙ sym (after-more x n);
    }
