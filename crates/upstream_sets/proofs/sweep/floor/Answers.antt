-- One resource more, if its order is great enough.
use Rattle.std.proofs.Common.{ℕ, ◌<◌, ◌≤◌, nat_le, length, ap, sym, refl, arith, ◌∙◌}
use Rattle.std.proofs.lemmas.Bool.{le-leb, lt-leb}
use Rattle.cell_base.specs.declared.cells.Cell.{Cell}
use Rattle.cell_base.specs.Stages.{order_of}
use Rattle.cell_base.proofs.Bits.{has_bit_set_same, has_bit_set_other}
use Rattle.upstream_sets.proofs.Floors.{has_bit-below_more, no_bit}
use Rattle.upstream_sets.proofs.sweep.floor.Goals as goal
use Rattle.upstream_sets.proofs.sweep.floor.Goals.{then-least-order_of, else-least-order_of}

pub loop-r-preserved : goal.loop-r-preserved
loop-r-preserved c =
    let test = λ (q : ℕ). nat_le c.args.least (order_of c.args.table.now q) in
    let r = c.loop-r.r in
    let fit : r < 64 = omega (
      arith,
      c.cell.ensures.fits.resource_count.1,
      c.len-r-end.ensures,
      ap (λ (cell : Cell). length cell.resources) c.cell.ensures.value,
    ) in
    elim c.if-least-order_of.branch [
      | then-least-order_of w ↦
          let order : c.args.least ≤ order_of c.args.table.now r = omega arith in
          rw w.mask-is (has_bit-below_more test r c.loop-r.mask _ c.loop-r.invariant
          (has_bit_set_same c.loop-r.mask r fit ∙ sym (le-leb _ _ order)) (λ q. has_bit_set_other c.loop-r.mask r q fit))
      | else-least-order_of w ↦
          let order : order_of c.args.table.now r < c.args.least = omega arith in
          rw w.mask-is (has_bit-below_more test r c.loop-r.mask _ c.loop-r.invariant
          (no_bit test r c.loop-r.mask c.loop-r.invariant (lt-leb _ _ order)) (λ q other. refl))
    ]
