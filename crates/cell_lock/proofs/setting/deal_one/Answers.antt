-- A pass is cut off as the rule of the table allows.
use Rattle.std.proofs.Common.{◌≡◌, ◌-◌, suc, arith, ap, ◌∙◌}
use Rattle.cell_lock.specs.Views.{AtSeat, initial_view}
use Rattle.cell_lock.proofs.Dealing.{deals}
use Rattle.cell_lock.proofs.setting.deal_one.Goals as goal

pub split_seat-seat-requires : goal.split_seat-seat-requires
split_seat-seat-requires g c =
    let v = c.args.seat.now.me.0 in
    let some_left : v.count ≡ suc (v.count - 1) = omega arith in (
      c.requires.table.0,
      omega arith,
      deals _ g.D.Disk.moment _ v.opening _ v.first (v.count - 1) v
          (ap (λ (m : AtSeat g.row.D.Denot). m.0) c.requires.left.0 ∙ ap (λ k. initial_view v.opening v.first k) some_left),
    )
