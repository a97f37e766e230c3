-- The stage by its number.
use Rattle.std.proofs.Common.{ℕ, length, ap, arith, sym, ◌∙◌}
use Rattle.cell_base.specs.declared.cells.Cell.{Cell}
use Rattle.cell_base.specs.Stages.{Stage, stage_of, stages}
use Rattle.cell_base.specs.Numbers.{number_of, stage_numbered}
use Rattle.cell_base.specs.Neighborhoods.{leads, masks_of}
use Rattle.policy_laws.proofs.Numbering.{numbering_law}
use Rattle.refusal_reason.proofs.reasons.leads.Goals as goal

pub is_member-requires-clause-made : goal.is_member-requires-clause-made
is_member-requires-clause-made c = c.upstream.ensures ∙ ap masks_of (sym c.table-2.ensures)

pub is_member-requires-clause-stage : goal.is_member-requires-clause-stage
is_member-requires-clause-stage c =
    let s = stage_of c.args.part in
    omega (
      arith,
      c.number-stage.ensures,
      ap (λ (cell : Cell). number_of cell s) c.table.ensures,
      ap (λ (cell : Cell). length (stages cell)) c.table-2.ensures,
      (numbering_law c.args.core.now.cell).numbers s c.requires.stage,
    )

pub is_member-requires-clause-resource : goal.is_member-requires-clause-resource
is_member-requires-clause-resource c =
    omega (arith, c.requires.resource, ap (λ (cell : Cell). length cell.resources) c.table-2.ensures)

pub returns : goal.returns
returns c =
    let cell : Cell = c.args.core.now.cell in
    let s : Stage = stage_of c.args.part in
    let r : ℕ = c.args.r.0 in
    c.is_member.ensures
    ∙ ap (λ (on : Cell). leads on (stage_numbered on c.number-stage.result.0) r) c.table-2.ensures
    ∙ ap (λ (n : ℕ). leads cell (stage_numbered cell n) r) (c.number-stage.ensures ∙ ap (λ (on : Cell). number_of on s) c.table.ensures)
    ∙ ap (λ (t : Stage). leads cell t r) ((numbering_law cell).numbered s c.requires.stage)
