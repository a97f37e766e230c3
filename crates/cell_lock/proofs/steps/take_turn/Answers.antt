-- Each try keeps the rule of the table, and what is taken is in hand.
use Rattle.std.proofs.Common.{ℕ, List, length, arith, ap, refl, sym, ◌∙◌, subst}
use Rattle.cell_base.specs.declared.shifts.Entry.{Entry}
use Rattle.cell_base.specs.Histories.{grants}
use Rattle.durable_cell.specs.Acknowledged.{HasSince}
use Rattle.durable_cell.specs.DurableState.{DurableState}
use Rattle.cell_lock.specs.Law.{AllStand}
use Rattle.cell_lock.specs.Views.{AtSeat, IsResting, IsSafe, held_of, moment_of, seen_of}
use Rattle.cell_lock.proofs.Turns.{takes_turn}
use Rattle.cell_lock.proofs.steps.take_turn.Goals as goal

pub compare_exchange-requires : goal.compare_exchange-requires
compare_exchange-requires g c =
    let rests : IsResting c.loop.seat.me = subst (λ (z : AtSeat g.row.D.Denot). IsResting z) (sym c.loop.invariant.view) c.requires.rests in
    (c.loop.invariant.table ∙ c.requires.table.0, omega arith, takes_turn _ _ _ _ _ _ _ _ _ _ _ _ rests)

pub returns-then-compare_exchange-eq0-clause-safe : goal.returns-then-compare_exchange-eq0-clause-safe
returns-then-compare_exchange-eq0-clause-safe g c =
    let took = c.compare_exchange.ensures.2.0 c.if-compare_exchange-eq0.true in
    subst (λ (m : AtSeat g.row.D.Denot). IsSafe (HasSince g.D.Disk.reads_as g.D.Disk.moment g.D.Disk.left_since) m
    (held_of c.args.top.now.key.durable.value m)) (sym took.1) (took.0, refl, λ then count had. had)

pub returns-then-compare_exchange-eq0-clause-stands : goal.returns-then-compare_exchange-eq0-clause-stands
returns-then-compare_exchange-eq0-clause-stands g c =
    let has : DurableState g.row.D.Denot → ℕ → ℕ → Type 0 = HasSince g.D.Disk.reads_as g.D.Disk.moment g.D.Disk.left_since in
    let first : DurableState g.row.D.Denot = c.args.top.now.key.durable.value in
    let took = c.compare_exchange.ensures.2.0 c.if-compare_exchange-eq0.true in
    let me = c.loop.seat.me in
    let rests : IsResting me = subst (λ (z : AtSeat g.row.D.Denot). IsResting z) (sym c.loop.invariant.view) c.requires.rests in
    let stands = (subst (λ (l : List (List Entry × ℕ)). AllStand has me.0.opening.shift took.0 l)
    (ap (λ (z : AtSeat g.row.D.Denot). z.0.answers) rests) took.3).0 in
    let held = subst (λ (m : AtSeat g.row.D.Denot). has (held_of first m) (moment_of me.0)
    (length (grants me.0.opening.shift (seen_of me.0)))) (sym took.1) stands in
    subst (λ (z : AtSeat g.row.D.Denot). has (held_of first c.compare_exchange.new.seat.me) (moment_of z.0)
    (length (grants z.0.opening.shift (seen_of z.0)))) c.loop.invariant.view held
