-- Each rank sets its own bit, or none.
use Rattle.std.proofs.Common.{◌≡◌, ◌<◌, length, arith, refl, sym, ◌∙◌, subst}
use Rattle.std.proofs.lemmas.Bool.{eq-eqb, ne_eqb}
use Rattle.cell_base.specs.declared.cells.ResId.{ResId}
use Rattle.cell_base.proofs.Bits.{has_bit-zero, has_bit_set_same, has_bit_set_other}
use Rattle.admission_core.proofs.Marking.{AreSoFar, so_far_more, bits_made}
use Rattle.admission_core.proofs.occupied.bits_of.Goals as goal
use Rattle.admission_core.proofs.occupied.bits_of.Goals.{then-q-r, else-q-r}

pub loop-k-init : goal.loop-k-init
loop-k-init c = record { each = λ k d below within. absurd (omega (arith, below)); behind = λ k above. has_bit-zero k }

pub loop-k-preserved : goal.loop-k-preserved
loop-k-preserved c =
    let k = c.loop-k.k in
    let none : ResId = record { 0 = 0 } in
    let within : c.loop-k.k < 64 = omega (arith, c.requires, c.loop-k-test.true) in
    elim c.if-q-r.branch [
      | then-q-r w ↦
          rw w.bits-is (so_far_more c.args.ranks.now c.args.r.0 k c.loop-k.bits _ none c.loop-k-test.true c.loop-k.invariant
          (has_bit_set_same c.loop-k.bits k within ∙ sym (eq-eqb _ _ w.if-q-r.true))
          (λ q away. has_bit_set_other c.loop-k.bits k q within away))
      | else-q-r w ↦
          rw w.bits-is (so_far_more c.args.ranks.now c.args.r.0 k c.loop-k.bits c.loop-k.bits none c.loop-k-test.true c.loop-k.invariant
          (c.loop-k.invariant.behind k (omega arith) ∙ sym (ne_eqb _ _ w.if-q-r.false)) (λ q away. refl))
    ]

pub returns : goal.returns
returns c =
    let all : c.loop-k.k ≡ length c.args.ranks.now = omega (arith, c.loop-k-test.false, c.loop-k.auto.k-end) in
    bits_made c.args.ranks.now c.args.r.0 c.loop-k.bits (omega (arith, c.loop-k.auto.bits-fits))
    (subst (λ n. AreSoFar c.args.ranks.now c.args.r.0 n c.loop-k.bits) all c.loop-k.invariant)
