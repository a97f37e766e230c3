-- The durable cell is in hand, and fits the lock after the answer.
use Rattle.std.proofs.Common.{◌≡◌, ℕ, List, get_or, sym, ap, subst}
use Rattle.durable_cell.specs.Asked.{Answers}
use Rattle.durable_cell.specs.DurableState.{DurableState}
use Rattle.cell_lock.specs.Views.{held_of}
use Rattle.cell_lock.proofs.Asking.{fits_after}
use Rattle.cell_lock.proofs.Seats.{carries, holding_carries}
use Rattle.cell_lock.proofs.steps.decide.Goals as goal

pub slot_mut-durable-requires : goal.slot_mut-durable-requires
slot_mut-durable-requires g c =
    (c.requires.table, carries c.args.seat.now.me _ (holding_carries c.args.seat.now.me _ c.requires.holds))

pub returns-clause-fits : goal.returns-clause-fits
returns-clause-fits g c =
    let first : DurableState g.row.D.Denot = c.args.top.now.key.durable.value in
    let o = c.args.seat.now.me.0.opening in
    let a : DurableState g.row.D.Denot = held_of first c.args.seat.now.me in
    let b : DurableState g.row.D.Denot = c.ask-answer.new.self in
    let found : a ≡ c.slot_mut-durable.result.now =
    ap (λ (l : List (ℕ × DurableState g.row.D.Denot)). (get_or l 0 (0, first)).1) c.slot_mut-durable.ensures.value in
    let in_shift : Answers a o.shift c.args.session c.args.request.now c.ask-answer.result b =
    subst (λ (z : DurableState g.row.D.Denot × ℕ). Answers z.0 z.1 c.args.session c.args.request.now c.ask-answer.result b)
    (λ i. (sym found i, sym c.requires.shift i)) c.ask-answer.ensures.answer in
    fits_after o c.args.session c.args.request.now c.ask-answer.result a b c.requires.holds.1 in_shift c.ask-answer.ensures.legal
    c.ask-answer.ensures.within
