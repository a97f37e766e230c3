-- The mask at the number of the stage.
use Rattle.std.proofs.Common.{get_or, ap, ◌∙◌, sym, subst, arith}
use Rattle.std.proofs.lemmas.List.{get_or_default}
use Rattle.cell_base.specs.Masks.{has_bit}
use Rattle.cell_base.specs.Stages.{IsStage, stage_of}
use Rattle.cell_base.specs.Numbers.{number_of}
use Rattle.policy_laws.proofs.Numbering.{numbering_law}
use Rattle.banker_check.specs.WayMasks.{IsWayMask}
use Rattle.banker_check.proofs.stage_masks.StageMasks.way.Goals as goal

pub index-requires : goal.index-requires
index-requires c =
    let cell = c.self.inside.stages in
    let s = stage_of c.args.part in
    let number = (numbering_law cell).numbers s (subst (λ cell. IsStage cell s) (sym c.self.view_is) c.requires) in
    omega (arith, number, c.number-stage.ensures, c.self.invariant.1.complete)

pub returns : goal.returns
returns c =
    let cell = c.self.inside.stages in
    let s = stage_of c.args.part in
    let ways = c.self.inside.ways.items in
    let stage = subst (λ cell. IsStage cell s) (sym c.self.view_is) c.requires in
    let number = (numbering_law cell).numbers s stage in
    let known : IsWayMask cell s (get_or ways (number_of cell s) 0) =
    subst (λ t. IsWayMask cell t (get_or ways (number_of cell s) 0)) ((numbering_law cell).numbered s stage)
    (c.self.invariant.1.each (number_of cell s) (omega arith) number) in
    let read = c.index.ensures
    ∙ ap (λ n. get_or ways n c.index.result.now) c.number-stage.ensures
    ∙ get_or_default ways (number_of cell s) c.index.result.now 0 (omega (arith, number, c.self.invariant.1.complete)) in
    subst (λ cell. IsWayMask cell s c.index.result.now) c.self.view_is (λ r. ap (λ m. has_bit m r) read ∙ known r)
