-- The lists are those of the members, and their lines those of one resource more.
use Rattle.std.proofs.Common.{arith, ap, length, subst, List, ℕ, ◌∙◌}
use Rattle.cell_base.specs.declared.cells.Cell.{Cell}
use Rattle.upstream_sets.specs.Members.{AreNeighborhoodsOf}
use Rattle.refusal_reason.proofs.Texts.{are_members, one_more}
use Rattle.refusal_reason.proofs.shown.show_text.Goals as goal

pub add_resource_lines-requires-clause-members : goal.add_resource_lines-requires-clause-members
add_resource_lines-requires-clause-members c =
    let lists = c.in_ok-neighborhoods.neighborhoods.items in
    are_members c.args.core.now.cell c.cell.ensures.fits lists
    (subst (λ (masks : List ℕ). AreNeighborhoodsOf masks lists) c.upstream.ensures c.in_ok-neighborhoods.ensures) c.loop-r.r
    (omega (arith, ap (λ (on : Cell). length on.resources) c.cell.ensures.cell)) c.as_slice.result.now c.index.result.now
    (c.as_slice.ensures ∙ c.index.ensures) c.table.result.now c.table.ensures

pub loop-r-preserved : goal.loop-r-preserved
loop-r-preserved c =
    let lists = c.in_ok-neighborhoods.neighborhoods.items in
    c.in_ok-add_resource_lines.ensures
    ∙ one_more c.args.core.now.cell c.cell.ensures.fits lists
    (subst (λ (masks : List ℕ). AreNeighborhoodsOf masks lists) c.upstream.ensures c.in_ok-neighborhoods.ensures) c.loop-r.r
    (omega (arith, ap (λ (on : Cell). length on.resources) c.cell.ensures.cell)) c.as_slice.result.now c.index.result.now
    (c.as_slice.ensures ∙ c.index.ensures) c.table.result.now c.table.ensures c.loop-r.text c.loop-r.invariant
