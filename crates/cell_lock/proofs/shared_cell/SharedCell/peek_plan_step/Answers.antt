-- The durable cell in hand is the one that was taken.
use Rattle.std.proofs.Common.{◌≡◌, ℕ, ◌≤◌, ◌∙◌, ap, sym, subst}
use Rattle.durable_cell.specs.Acknowledged.{HasSince}
use Rattle.durable_cell.specs.DurableState.{DurableState}
use Rattle.cell_lock.specs.declared.board.Opening.{Opening}
use Rattle.cell_lock.specs.Openings.{Fits, WhereTold}
use Rattle.cell_lock.specs.Passes.{LockId, PassState}
use Rattle.cell_lock.specs.Views.{AtSeat, IsSafe, held_of, moment_of}
use Rattle.cell_lock.proofs.Acknowledging.{no_later}
use Rattle.cell_lock.proofs.shared_cell.SharedCell.peek_plan_step.Goals as goal

pub give_turn-requires-clause-safe : goal.give_turn-requires-clause-safe
give_turn-requires-clause-safe g c =
    subst (λ (m : AtSeat g.row.D.Denot). IsSafe (HasSince g.D.Disk.reads_as g.D.Disk.moment g.D.Disk.left_since) m
    (held_of c.self.inside.table.shared.key.durable.value m)) (sym c.plan_held-step.ensures.seat) c.take_turn.ensures.safe

pub returns-clause-moment : goal.returns-clause-moment
returns-clause-moment g c =
    let first : DurableState g.row.D.Denot = c.self.inside.table.shared.key.durable.value in
    let me = c.take_turn.new.seat.me in
    let a : DurableState g.row.D.Denot = held_of first me in
    let opening : me.0.opening ≡ c.args.self.now.opening =
    c.take_turn.ensures.same.opening ∙ ap (λ (s : PassState g.row.D.Denot). s.lock.opening) c.pass.view_is
    ∙ ap (λ (l : LockId g.row.D.Denot). l.opening) c.requires.lock in
    let same : held_of first c.plan_held-step.new.seat.me ≡ a =
    ap (λ (m : AtSeat g.row.D.Denot). held_of first m) c.plan_held-step.ensures.seat in
    let later = no_later g.D.Disk.reads_as g.D.Disk.moment g.D.Disk.left_since me.0.opening a _ _ _ c.take_turn.ensures.holds.1.same
    c.plan_held-step.ensures.keeps.tells c.take_turn.ensures.stands
    (c.give_turn.ensures.moment ∙ ap (λ (d : DurableState g.row.D.Denot). g.D.Disk.moment d.disk) same) in
    subst (λ (z : Opening g.row.D.Denot × ℕ). WhereTold g.D.Disk.reads_as z.0 (z.1 ≤ moment_of c.give_turn.new.seat.me.0))
    (λ i. (opening i, (c.pass.view_is i).moment)) later

pub returns-clause-clock : goal.returns-clause-clock
returns-clause-clock g c =
    let first : DurableState g.row.D.Denot = c.self.inside.table.shared.key.durable.value in
    let me = c.take_turn.new.seat.me in
    let a : DurableState g.row.D.Denot = held_of first me in
    let opening : me.0.opening ≡ c.args.self.now.opening =
    c.take_turn.ensures.same.opening ∙ ap (λ (s : PassState g.row.D.Denot). s.lock.opening) c.pass.view_is
    ∙ ap (λ (l : LockId g.row.D.Denot). l.opening) c.requires.lock in
    let same : held_of first c.plan_held-step.new.seat.me ≡ a =
    ap (λ (m : AtSeat g.row.D.Denot). held_of first m) c.plan_held-step.ensures.seat in
    record {
      durable = a;
      fits = subst (λ (o : Opening g.row.D.Denot). Fits o a) opening c.take_turn.ensures.holds.1;
      keeps = c.plan_held-step.ensures.keeps;
      seen = c.give_turn.ensures.seen ∙ ap (λ (d : DurableState g.row.D.Denot). d.history) same;
      clock = c.give_turn.ensures.moment ∙ ap (λ (d : DurableState g.row.D.Denot). g.D.Disk.moment d.disk) same;
    }
