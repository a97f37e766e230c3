-- The lowest resource that is left gets the stage.
use Rattle.std.proofs.Common.{◌<◌, List, [], ◌∷◌, ◌++◌, ap, arith, w64, ◌∙◌, length, length-set}
use Rattle.std.specs.Int.{trailing_zeros}
use Rattle.std.proofs.lemmas.List.{get_or_default}
use Rattle.cell_base.proofs.Bits.{without_lowest}
use Rattle.route_table.specs.declared.stage_table.StageNo.{StageNo}
use Rattle.upstream_sets.proofs.Adding.{added_lowest}
use Rattle.upstream_sets.proofs.neighborhoods.add_stage.Goals as goal

pub loop-left-smaller : goal.loop-left-smaller
loop-left-smaller c = (without_lowest c.loop-left.left (omega arith) (omega arith)).less

pub loop-left-preserved : goal.loop-left-preserved
loop-left-preserved c =
    let step = without_lowest c.loop-left.left (omega arith) (omega arith) in
    let within : trailing_zeros w64 c.loop-left.left < length c.loop-left.lists.items =
    omega (arith, step.within, c.loop-left.invariant.complete, c.requires) in
    record {
      complete = length-set c.loop-left.lists.items _ c.try_push.new.self ∙ c.loop-left.invariant.complete;
      each = added_lowest c.args.stage c.args.mask c.loop-left.left _ _ step c.args.lists.now.items c.loop-left.lists.items
          c.try_push.new.self within
          (c.in_ok-try_push.ensures.ok
          ∙ ap (λ (l : List StageNo). l ++ c.args.stage ∷ [])
          (c.index_mut.ensures.value ∙ get_or_default c.loop-left.lists.items _ _ [] within))
          c.loop-left.invariant.each;
    }
