-- The bits of a mask of a cell are what its stage leads to.
use Rattle.std.proofs.Common.{◌≡◌, ◌<◌, ℕ, List, length, get_or, ap, ◌∙◌, arith}
use Rattle.std.proofs.lemmas.Grind.{get_or_default_zero}
use Rattle.cell_base.specs.Masks.{has_bit}
use Rattle.policy_laws.proofs.Masks.{length-masks_of, bit_at_number}
use Rattle.upstream_sets.proofs.upstream.Upstream.mask.Goals as goal

pub returns-clause-leads : goal.returns-clause-leads
returns-clause-leads c cell fits made r =
    let same : length c.self.inside.masks.items ≡ length c.args.self.now = ap length c.self.view_is in
    let within : c.args.stage.0 < length c.self.inside.masks.items = omega (arith, same, c.requires) in
    let read : c.index.result.now ≡ get_or c.args.self.now c.args.stage.0 0 =
    c.index.ensures
    ∙ get_or_default_zero c.self.inside.masks.items c.args.stage.0 c.index.result.now within
    ∙ ap (λ (masks : List ℕ). get_or masks c.args.stage.0 0) c.self.view_is in
    ap (λ mask. has_bit mask r) read
    ∙ bit_at_number cell fits c.args.self.now made c.args.stage.0 r
    (omega (arith, c.requires, ap length made, length-masks_of cell))
