-- One resource more, by two draws.
use Rattle.std.proofs.Common.{◌+◌, ◌*◌, ◌++◌, ◌∷◌, [], List, ℕ, ap, ap₂, sym, ◌∙◌, arith}
use Rattle.cell_base.specs.declared.cells.Resource.{Resource}
use Rattle.cell_make.specs.Draws.{next_number}
use Rattle.cell_make.specs.Cells.{drawn_resource}
use Rattle.cell_make.proofs.Sequences.{after-none, after-two_more}
use Rattle.cell_make.proofs.Lists.{resources-none, resources-more}
use Rattle.cell_make.proofs.cells.draw_resources.Goals as goal

pub loop-r-init : goal.loop-r-init
loop-r-init c = record {
  so_far = c.new-resources.ensures ∙ sym (resources-none c.args.draws.now.number);
  after = sym (after-none c.args.draws.now.number);
}

pub loop-r-preserved : goal.loop-r-preserved
loop-r-preserved c =
    let x = c.args.draws.now.number in
    let r = c.loop-r.r in
    let kept = c.loop-r.invariant in
    record {
      so_far =
          c.in_ok-try_push.ensures.ok
          ∙ ap₂ (λ (list : List Resource) (one : Resource). list ++ one ∷ []) kept.so_far
          (c.draw_resource.ensures.value ∙ ap (λ (y : ℕ). drawn_resource y r) kept.after)
          ∙ sym (resources-more x r);
      after =
          c.draw_resource.ensures.after ∙ ap (λ (y : ℕ). next_number (next_number y)) kept.after
          ∙ sym (after-two_more x (2 * r) (2 * (r + 1)) (omega arith));
    }
