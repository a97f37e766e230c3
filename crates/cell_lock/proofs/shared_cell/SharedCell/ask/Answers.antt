-- What the pass knows is what the durable cell in its hand answered.
use Rattle.std.proofs.Common.{◌≡◌, ℕ, ◌≤◌, ◌∙◌, ap, subst}
use mathlib.Core.List.{IsPrefix}
use Rattle.durable_cell.specs.DurableState.{DurableState}
use Rattle.cell_lock.specs.declared.board.Opening.{Opening}
use Rattle.cell_lock.specs.Openings.{Fits, WhereTold}
use Rattle.cell_lock.specs.Views.{held_of, moment_of}
use Rattle.cell_lock.specs.Passes.{LockId, PassState}
use Rattle.cell_lock.proofs.Acknowledging.{no_later}
use Rattle.cell_lock.proofs.Asking.{asked_seen}
use Rattle.cell_lock.proofs.shared_cell.SharedCell.ask.Goals as goal

pub returns-clause-seen : goal.returns-clause-seen
returns-clause-seen g c =
    let first : DurableState g.row.D.Denot = c.self.inside.table.shared.key.durable.value in
    let a : DurableState g.row.D.Denot = held_of first c.take_turn.new.seat.me in
    let b : DurableState g.row.D.Denot = held_of first c.ask_held-answer.new.seat.me in
    let began : IsPrefix c.args.pass.now.seen a.history =
    subst (λ (s : PassState g.row.D.Denot). IsPrefix s.seen a.history) c.pass.view_is c.take_turn.ensures.follows.began in
    rw c.give_turn.ensures.seen
    (asked_seen c.args.pass.now.seen c.self.inside.shift c.pass.inside.number c.args.request.now c.ask_held-answer.result a b began
    c.ask_held-answer.ensures.answer)

pub give_turn-requires-clause-safe : goal.give_turn-requires-clause-safe
give_turn-requires-clause-safe g c =
    let safe = c.take_turn.ensures.safe in (
      safe.0,
      c.ask_held-answer.ensures.taken ∙ safe.1,
      λ then count had. c.ask_held-answer.ensures.disk.still then count (safe.2 then count had),
    )

pub returns-clause-moment : goal.returns-clause-moment
returns-clause-moment g c =
    let first : DurableState g.row.D.Denot = c.self.inside.table.shared.key.durable.value in
    let me = c.ask_held-answer.new.seat.me in
    let b : DurableState g.row.D.Denot = held_of first me in
    let opening : me.0.opening ≡ c.args.self.now.opening =
    c.ask_held-answer.ensures.same.opening ∙ c.take_turn.ensures.same.opening
    ∙ ap (λ (s : PassState g.row.D.Denot). s.lock.opening) c.pass.view_is
    ∙ ap (λ (l : LockId g.row.D.Denot). l.opening) c.requires.lock in
    let stands = c.ask_held-answer.ensures.disk.still _ _ c.take_turn.ensures.stands in
    let later = no_later g.D.Disk.reads_as g.D.Disk.moment g.D.Disk.left_since me.0.opening b _ _ _ c.ask_held-answer.ensures.holds.1.same
    c.ask_held-answer.ensures.keeps.tells stands c.give_turn.ensures.moment in
    subst (λ (z : Opening g.row.D.Denot × ℕ). WhereTold g.D.Disk.reads_as z.0 (z.1 ≤ moment_of c.give_turn.new.seat.me.0))
    (λ i. (opening i, (c.pass.view_is i).moment)) later

pub returns-clause-clock : goal.returns-clause-clock
returns-clause-clock g c =
    let me = c.ask_held-answer.new.seat.me in
    let b : DurableState g.row.D.Denot = held_of c.self.inside.table.shared.key.durable.value me in
    let opening : me.0.opening ≡ c.args.self.now.opening =
    c.ask_held-answer.ensures.same.opening ∙ c.take_turn.ensures.same.opening
    ∙ ap (λ (s : PassState g.row.D.Denot). s.lock.opening) c.pass.view_is
    ∙ ap (λ (l : LockId g.row.D.Denot). l.opening) c.requires.lock in
    record {
      durable = b;
      fits = subst (λ (o : Opening g.row.D.Denot). Fits o b) opening c.ask_held-answer.ensures.holds.1;
      keeps = c.ask_held-answer.ensures.keeps;
      seen = c.give_turn.ensures.seen;
      clock = c.give_turn.ensures.moment;
    }
