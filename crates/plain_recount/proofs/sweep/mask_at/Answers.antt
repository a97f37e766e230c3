-- One bit more, where the stage leads to the resource.
use Rattle.std.proofs.Common.{◌≡◌, ◌+◌, ◌*◌, ◌%◌, ◌^◌, ◌<◌, Bool, true, false, cond, ap, sym, ◌∙◌, arith}
use Rattle.cell_base.specs.Stages.{stage}
use Rattle.cell_base.specs.Neighborhoods.{leads}
use Rattle.plain_recount.proofs.Bits.{bits_below, bits_below-next, bits_below-small, power_fits}
use Rattle.plain_recount.proofs.sweep.mask_at.Goals as goal
use Rattle.plain_recount.proofs.sweep.mask_at.Goals.{then-leads_at, else-leads_at}

pub overflow_add-mask : goal.overflow_add-mask
overflow_add-mask c =
    let r = c.loop-r.r in
    let small = bits_below-small (leads c.args.cell.now (stage c.args.kind.0 c.args.place)) r in
    let fit : r < 64 = omega (arith, c.requires.fits.resource_count.1, c.len-r-end.ensures) in
    omega (arith, c.loop-r.invariant, small, power_fits r fit)

pub loop-r-preserved : goal.loop-r-preserved
loop-r-preserved c =
    let r = c.loop-r.r in
    let test = leads c.args.cell.now (stage c.args.kind.0 c.args.place) in
    let fit : r < 64 = omega (arith, c.requires.fits.resource_count.1, c.len-r-end.ensures) in
    elim c.if-leads_at.branch [
      | then-leads_at w ↦
          let passes : test r ≡ true = sym c.leads_at.ensures ∙ w.if-leads_at.true in
          let more : c.loop-r.mask + 1 * 2 ^ r % 2 ^ 64 ≡ bits_below test r + cond true (2 ^ r) 0 =
          omega (arith, c.loop-r.invariant, power_fits r fit) in
          w.mask-is ∙ more ∙ ap (λ (b : Bool). bits_below test r + cond b (2 ^ r) 0) (sym passes) ∙ sym (bits_below-next test r)
      | else-leads_at w ↦
          let fails : test r ≡ false = sym c.leads_at.ensures ∙ w.if-leads_at.false in
          let same : c.loop-r.mask ≡ bits_below test r + cond false (2 ^ r) 0 = omega (arith, c.loop-r.invariant) in
          w.mask-is ∙ same ∙ ap (λ (b : Bool). bits_below test r + cond b (2 ^ r) 0) (sym fails) ∙ sym (bits_below-next test r)
    ]
