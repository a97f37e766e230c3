-- One type more.
use Rattle.std.proofs.Common.{◌++◌, ◌∷◌, [], List, ℕ, ap, ap₂, sym, ◌∙◌}
use Rattle.cell_base.specs.declared.cells.JobType.{JobType}
use Rattle.cell_make.specs.Cells.{drawn_type, number_after_type}
use Rattle.cell_make.proofs.Lists.{types-none, types-more, after_types-none, after_types-more}
use Rattle.cell_make.proofs.cells.draw_types.Goals as goal

pub loop-t-init : goal.loop-t-init
loop-t-init c = record {
  so_far = c.new-types.ensures ∙ sym (types-none c.args.draws.now.number);
  after = sym (after_types-none c.args.draws.now.number);
}

pub loop-t-preserved : goal.loop-t-preserved
loop-t-preserved c =
    let x = c.args.draws.now.number in
    let t = c.loop-t.t in
    let kept = c.loop-t.invariant in
    record {
      so_far =
          c.in_ok-try_push.ensures.ok
          ∙ ap₂ (λ (list : List JobType) (one : JobType). list ++ one ∷ []) kept.so_far
          (c.in_ok-draw_type.ensures.value ∙ ap (λ (y : ℕ). drawn_type y t) kept.after)
          ∙ sym (types-more x t);
      after = c.in_ok-draw_type.ensures.after ∙ ap number_after_type kept.after ∙ sym (after_types-more x t);
    }
