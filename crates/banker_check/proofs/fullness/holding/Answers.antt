-- One resource more, if so many parts stand on it.
use Rattle.std.proofs.Common.{ℕ, ◌+◌, ◌<◌, ◌≤◌, nat_le, get_or, refl, sym, arith, ◌∙◌}
use Rattle.std.proofs.lemmas.Bool.{le-leb, lt-leb}
use Rattle.cell_base.specs.Stages.{capacity_of}
use Rattle.cell_base.proofs.Bits.{has_bit_set_same, has_bit_set_other}
use Rattle.upstream_sets.proofs.Floors.{has_bit-below_more, no_bit}
use Rattle.banker_check.proofs.fullness.holding.Goals as goal
use Rattle.banker_check.proofs.fullness.holding.Goals.{then-from, else-from}

pub loop-r-preserved : goal.loop-r-preserved
loop-r-preserved c =
    let test = λ (q : ℕ). nat_le (capacity_of c.args.cell.now q + c.args.beyond) (get_or c.args.held.now q 0) in
    let r = c.loop-r.r in
    let fit : r < 64 = omega (arith, c.requires.fits.resource_count.1, c.len-r-end.ensures) in
    elim c.if-from.branch [
      | then-from w ↦
          let holds : capacity_of c.args.cell.now r + c.args.beyond ≤ get_or c.args.held.now r 0 = omega arith in
          rw w.mask-is (has_bit-below_more test r c.loop-r.mask _ c.loop-r.invariant
          (has_bit_set_same c.loop-r.mask r fit ∙ sym (le-leb _ _ holds)) (λ q. has_bit_set_other c.loop-r.mask r q fit))
      | else-from w ↦
          let fails : get_or c.args.held.now r 0 < capacity_of c.args.cell.now r + c.args.beyond = omega arith in
          rw w.mask-is (has_bit-below_more test r c.loop-r.mask _ c.loop-r.invariant
          (no_bit test r c.loop-r.mask c.loop-r.invariant (lt-leb _ _ fails)) (λ q other. refl))
    ]
