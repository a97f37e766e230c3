-- Each look-up tells of the stage of this number.
use Rattle.std.proofs.Common.{ℕ, List, length, get_or, ap, subst, sym, arith, ◌∙◌}
use Rattle.cell_base.specs.declared.cells.Cell.{Cell}
use Rattle.cell_base.specs.Stages.{stage, IsStage}
use Rattle.cell_base.specs.Numbers.{stage_numbered}
use Rattle.cell_base.proofs.Numbering.{stage_at}
use Rattle.policy_laws.proofs.Masks.{mask_at_number, length-masks_of}
use Rattle.admission_core.proofs.Rowing.{first_named, first_stays, stage_named}
use Rattle.admission_core.proofs.stage_rows.row_of.Goals as goal

pub mask-requires : goal.mask-requires
mask-requires c =
    omega (arith, c.requires.stage, ap length c.requires.made, length-masks_of c.args.stages.now)

pub successor-requires-clause-stage : goal.successor-requires-clause-stage
successor-requires-clause-stage c =
    let cell = c.args.stages.now in
    let s = stage_numbered c.args.stages.now c.args.stage.0 in
    subst (λ (cell : Cell). IsStage cell (stage c.kind_of-kind.result.0 c.place_of-place.result)) (sym c.cell.ensures.value)
    (subst (IsStage cell)
    (stage_named s c.kind_of-kind.result.0 c.place_of-place.result c.kind_of-kind.ensures.value c.place_of-place.ensures)
    (stage_at cell c.args.stage.0 c.requires.stage).standing)

pub returns : goal.returns
returns c =
    let cell = c.args.stages.now in
    let n = c.args.stage.0 in
    let s = stage_numbered c.args.stages.now c.args.stage.0 in
    let kind = c.kind_of-kind.result.0 in
    let place = c.place_of-place.result in
    let named = stage_named s kind place c.kind_of-kind.ensures.value c.place_of-place.ensures in
    let first = c.successor.result in
    record {
      mask = c.mask.ensures.mask ∙ ap (λ (masks : List ℕ). get_or masks n 0) c.requires.made
          ∙ mask_at_number cell n c.requires.stage;
      left = c.remaining.ensures;
      on = c.resource_of.ensures.value;
      on_within = c.resource_of.ensures.within;
      works = c.works.ensures;
      first = first_named cell c.cell.result.now s kind place first c.cell.ensures.value named c.successor.ensures.stage;
      first_within = first_stays cell c.cell.result.now s kind place first c.cell.ensures.value named c.successor.ensures.within;
    }
