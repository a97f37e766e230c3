-- One successor more.
use Rattle.std.proofs.Common.{◌||◌, ◌<◌, length, take, get_or, ap, sym, ◌∙◌, arith}
use Rattle.std.specs.List.{list_any}
use Rattle.std.proofs.lemmas.List.Folds.{list_any_more}
use Rattle.std.proofs.lemmas.Option.{slice_get-get_or}
use Rattle.cell_base.specs.Masks.{has_bit}
use Rattle.cell_base.specs.Stages.{stage, successors}
use Rattle.cell_base.specs.Numbers.{stage_numbered}
use Rattle.cell_base.specs.Neighborhoods.{leads}
use Rattle.cell_base.proofs.Bits.{has_bit-or}
use Rattle.policy_laws.proofs.Masks.{mask_law}
use Rattle.upstream_sets.proofs.sweep.joined.Goals as goal

pub loop-branch-preserved : goal.loop-branch-preserved
loop-branch-preserved c r =
    let cell = c.args.table.now in
    let next = successors cell (stage_numbered cell c.args.stage.0) in
    let branch = c.loop-branch.branch in
    let within : branch < length next = omega (arith, c.loop-branch-test.true, c.branches-branch-end.ensures) in
    let to = get_or next branch (stage 0 0) in
    has_bit-or c.loop-branch.mask c.next_mask-mask.result r
    ∙ ap (λ b. b || has_bit c.next_mask-mask.result r) (c.loop-branch.invariant r)
    ∙ ap (λ b. list_any (λ t. leads cell t r) (take branch next) || b)
    (ap (λ mask. has_bit mask r) (c.next_mask-mask.ensures to (slice_get-get_or next branch (stage 0 0) within))
    ∙ mask_law cell c.requires.fits to r)
    ∙ sym (list_any_more (λ t. leads cell t r) next branch (stage 0 0) within)
