-- Each resource sets its own bit, or none.
use Rattle.std.proofs.Common.{◌<◌, arith, refl, sym, ◌∙◌}
use Rattle.std.proofs.lemmas.Bool.{le-leb, lt-leb}
use Rattle.cell_base.proofs.Bits.{has_bit-zero, has_bit_set_same, has_bit_set_other}
use Rattle.neighborhood_counts.proofs.Full.{marked_more}
use Rattle.neighborhood_counts.proofs.counts.without_units.Goals as goal
use Rattle.neighborhood_counts.proofs.counts.without_units.Goals.{then-capacity-eq0, else-capacity-eq0}

pub loop-r-init : goal.loop-r-init
loop-r-init c = record { so_far = λ q below. absurd (omega arith); behind = λ q above. has_bit-zero q }

pub loop-r-preserved : goal.loop-r-preserved
loop-r-preserved c =
    let r = c.loop-r.r in
    let within : c.loop-r.r < 64 = omega arith in
    elim c.if-capacity-eq0.branch [
      | then-capacity-eq0 w ↦
          rw w.full-is (marked_more c.args.capacities.now r c.loop-r.full _ c.loop-r.invariant
          (has_bit_set_same c.loop-r.full r within ∙ sym (le-leb _ _ (omega arith)))
          (λ q away. has_bit_set_other c.loop-r.full r q within away))
      | else-capacity-eq0 w ↦
          rw w.full-is (marked_more c.args.capacities.now r c.loop-r.full c.loop-r.full c.loop-r.invariant
          (c.loop-r.invariant.behind r (omega arith) ∙ sym (lt-leb _ _ (omega arith))) (λ q away. refl))
    ]
