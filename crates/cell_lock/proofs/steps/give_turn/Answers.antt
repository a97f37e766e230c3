-- The turn is given up as the rule of the table asks.
use Rattle.std.specs.Prelude.{Some}
use Rattle.std.proofs.Common.{◌≡◌, ℕ, List, length, refl, subst, arith}
use Rattle.cell_base.specs.declared.shifts.Grant.{Grant}
use Rattle.durable_cell.specs.Acknowledged.{HasSince}
use Rattle.durable_cell.specs.DurableState.{DurableState}
use Rattle.cell_lock.specs.Views.{held_of}
use Rattle.cell_lock.proofs.Turns.{gives_turn}
use Rattle.cell_lock.proofs.steps.give_turn.Goals as goal

pub store-requires : goal.store-requires
store-requires g c =
    let has : DurableState g.row.D.Denot → ℕ → ℕ → Type 0 = HasSince g.D.Disk.reads_as g.D.Disk.moment g.D.Disk.left_since in
    let me = c.args.seat.now.me in
    let held : DurableState g.row.D.Denot = held_of c.args.top.now.key.durable.value me in
    let stands = subst (λ (l : List Grant). has held (g.D.Disk.moment held.disk) (length l)) c.requires.holds.1.added
    c.requires.acknowledged in
    let still : (taken : DurableState g.row.D.Denot) → me.0.taken ≡ Some taken → (then count : ℕ) → has taken then count
    → has held then count =
    λ taken is then count h.
    (let same : taken ≡ c.requires.safe.0 = cc (is, c.requires.safe.1) in
    c.requires.safe.2 then count (subst (λ (d : DurableState g.row.D.Denot). has d then count) same h)) in (
      c.requires.table.0,
      omega arith,
      gives_turn has g.D.Disk.moment _ _ _ _ _ _ _ _ _ _ _ c.requires.holds.0 c.requires.holds.1 refl stands still,
    )
