-- One pass more is dealt.
use Rattle.std.proofs.Common.{◌≡◌, ◌+◌, ◌-◌, ◌∷◌, [], ◌++◌, ℕ, arith, sym, ap, ◌∙◌}
use Rattle.cell_lock.specs.Views.{AtSeat, initial_view}
use Rattle.cell_lock.specs.Passes.{new_pass}
use Rattle.cell_lock.specs.Steps.{lock_of}
use Rattle.cell_lock.proofs.Gathering.{passes_more}
use Rattle.cell_lock.proofs.setting.deal.Goals as goal

pub loop-k-preserved : goal.loop-k-preserved
loop-k-preserved g c =
    let at = c.loop-k in
    let i = at.invariant in
    let o = c.args.seat.now.me.0.opening in
    let lock = lock_of c.args.seat.now in
    let opening_is = ap (λ (m : AtSeat g.row.D.Denot). m.0.opening) i.left in
    let first = ap (λ (m : AtSeat g.row.D.Denot). m.0.first) i.left in
    let count = ap (λ (m : AtSeat g.row.D.Denot). m.0.count) i.left in
    let fewer : c.args.passes - at.k - 1 ≡ c.args.passes - (at.k + 1) = omega arith in
    let number : 1 + at.k ≡ at.k + 1 = omega arith in
    let same_pass : c.deal_one-pass.result ≡ new_pass g.D.Disk.moment lock (1 + at.k) =
    c.deal_one-pass.ensures.pass ∙ (λ j. new_pass g.D.Disk.moment (record { table = i.table j; opening = opening_is j }) (sym number j)) in
    record {
      table = c.deal_one-pass.ensures.table ∙ i.table;
      left = c.deal_one-pass.ensures.left ∙ (λ j. (initial_view (opening_is j) (first j + 1) (count j - 1), []))
          ∙ ap (λ (k : ℕ). (initial_view o (at.k + 1 + 1) k, [])) fewer;
      dealt = c.push.ensures.items ∙ (λ j. i.dealt j ++ same_pass j ∷ []) ∙ sym (passes_more g.D.Disk.moment lock 1 at.k);
      room = omega (arith, i.room, c.push.ensures.spare);
    }
