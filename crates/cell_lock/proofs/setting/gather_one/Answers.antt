-- The pass takes in the next seat as the rule of the table allows.
use Rattle.std.proofs.Common.{◌≡◌, ◌+◌, false, arith, ap, ◌∙◌}
use Rattle.cell_lock.specs.Passes.{PassState}
use Rattle.cell_lock.specs.Views.{AtSeat}
use Rattle.cell_lock.proofs.Dealing.{gathers}
use Rattle.cell_lock.proofs.setting.gather_one.Goals as goal

pub join_seat-requires : goal.join_seat-requires
join_seat-requires g c =
    let seat = c.pass.inside.seat in
    let host = c.args.host in
    let number : seat.me.0.first ≡ c.args.pass.number = c.pass.invariant.1
    ∙ ap (λ (s : PassState g.row.D.Denot). s.number) c.pass.view_is in
    let one : seat.me.0.count ≡ 1 = ap (λ (m : AtSeat g.row.D.Denot). m.0.count) c.pass.invariant.0 in
    let idle : seat.me.0.has_turn ≡ false = ap (λ (m : AtSeat g.row.D.Denot). m.0.has_turn) c.pass.invariant.0 in
    let table = ap (λ (s : PassState g.row.D.Denot). s.lock.table) c.pass.view_is ∙ (c.requires.pass.0 ∙ c.requires.table.0) in
    let next : host.me.0.first ≡ seat.me.0.first + seat.me.0.count = omega (arith, number, one, c.requires.pass.1) in (
      table,
      c.requires.table.0,
      c.requires.host.1,
      omega arith,
      gathers _ _ _ _ _ _ _ idle c.requires.host.0 one next,
    )
