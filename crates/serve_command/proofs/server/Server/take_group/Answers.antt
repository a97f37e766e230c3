-- Line by line.
use Rattle.std.proofs.Common.{◌≡◌, ◌+◌, ◌≤◌, List, ℕ, ap, arith, length, map, refl, subst, sym, ◌∙◌}
use Rattle.admission_core.specs.CoreState.{CoreState}
use Rattle.serve_command.specs.Asks.{ask_of}
use Rattle.policy_laws.proofs.Room.{few_parts}
use Rattle.serve_command.specs.Rounds.{IsAnsweredGroup, KeepsWaiters, MAX_REPLIES, Stays}
use Rattle.serve_command.specs.declared.server.Server.{Server}
use Rattle.serve_command.proofs.Asking.{ask_of-kept}
use Rattle.serve_command.proofs.Taking.{begins, finds_full, one_more, stays_more, stays_same}
use Rattle.serve_command.proofs.server.Server.take_group.Goals as goal

pub loop-i-init : goal.loop-i-init
loop-i-init g c =
    let ready = c.requires.ready in
    let none = ap (λ (rs : List (List ℕ)). length rs) ready.replies in
    record {
      goes_on = λ talk text given at reads. begins c.args.self.now ready talk text given c.args.lines.now at reads;
      stays = stays_same c.args.self.now;
      waiters = ready.waiters;
      ahead = omega arith;
      begins = λ e. refl;
      pending = omega (arith, none, ap (λ (gs : List _). length gs) ready.pending);
    }

pub returns-then-not-has_room-clause-taken : goal.returns-then-not-has_room-clause-taken
returns-then-not-has_room-clause-taken g c = λ talk text given at reads.
    let so = c.loop-i.invariant.goes_on talk text given at reads in (so.0, so.1, so.2, omega (arith, so.3, c.loop-i-test.true))

pub returns-then-not-has_room-clause-takes : goal.returns-then-not-has_room-clause-takes
returns-then-not-has_room-clause-takes g c = λ some.
    let ready = c.requires.ready in
    let old = c.args.self.now in
    let so = c.loop-i.invariant in
    let begun : c.loop-i._i ≡ 0 → ⊥ = λ e.
    let full = subst (λ (s : Server _). MAX_REPLIES ≤ length s.replies + length s.queue.waiters + length s.live.parts) (so.begins e)
    (c.has_room.ensures.none c.if-not-has_room.true) in
    let none = ap (λ (rs : List (List ℕ)). length rs) ready.replies in
    let few = few_parts old.live.cell c.live_law.ensures.fits old.live.parts c.live_law.ensures.admitted in
    omega (arith, full, none, few, ready.waiters.few) in
    omega (arith, so.ahead, begun)

pub returns-then-not-has_room-clause-stays : goal.returns-then-not-has_room-clause-stays
returns-then-not-has_room-clause-stays g c = c.loop-i.invariant.stays

pub returns-then-not-has_room-clause-waiters : goal.returns-then-not-has_room-clause-waiters
returns-then-not-has_room-clause-waiters g c = c.loop-i.invariant.waiters

pub returns-then-not-next_line-clause-taken : goal.returns-then-not-next_line-clause-taken
returns-then-not-next_line-clause-taken g c = λ talk text given at reads.
    let so = c.loop-i.invariant.goes_on talk text given at reads in
    (so.0, so.1, (c.next_line.ensures.none c.if-not-next_line.true).1 text _ so.2, omega (arith, so.3, c.loop-i-test.true))

pub returns-then-not-next_line-clause-takes : goal.returns-then-not-next_line-clause-takes
returns-then-not-next_line-clause-takes g c = λ some.
    omega (arith, some, ap (λ (bytes : List ℕ). length bytes) (c.next_line.ensures.none c.if-not-next_line.true).0)

pub returns-then-not-next_line-clause-stays : goal.returns-then-not-next_line-clause-stays
returns-then-not-next_line-clause-stays g c = c.loop-i.invariant.stays

pub returns-then-not-next_line-clause-waiters : goal.returns-then-not-next_line-clause-waiters
returns-then-not-next_line-clause-waiters g c = c.loop-i.invariant.waiters

pub answer-requires-clause-ready : goal.answer-requires-clause-ready
answer-requires-clause-ready g c =
    let so = c.loop-i.invariant in
    let ready = c.requires.ready in
    let short = c.has_room.ensures.room c.if-not-has_room.false in
    record {
      runs = so.stays.runs ∙ ready.runs;
      room = so.stays.room ∙ ready.room;
      waiters = so.waiters;
      spare = omega (
        arith,
        so.stays.spare,
        so.pending,
        short,
        ready.spare,
        ap (λ (gs : List _). length gs) ready.pending,
      );
      short = short;
    }

pub returns-in-Err-clause-taken : goal.returns-in-Err-clause-taken
returns-in-Err-clause-taken g c = λ talk text given at reads.
    let old = c.args.self.now in
    let cell = old.live.cell in
    let so = c.loop-i.invariant.goes_on talk text given at reads in
    let line = c.next_line.ensures.whole c.if-not-next_line.false text _ so.2 in
    let cell_is = c.over-indexed.ensures ∙ c.cell.ensures.cell ∙ ap (λ (s : CoreState). s.cell) c.core.ensures.core ∙ so.1.cell_is in
    let ask_is = c.read_ask-ask.ensures.ask ∙ (λ i. ask_of (cell_is i) ((c.line-line.ensures ∙ line.1) i)) ∙ ask_of-kept cell line.0 in (
      so.0,
      subst (λ (s : Server _). IsAnsweredGroup cell talk old.asked (map (ask_of cell) so.0) s) (sym c.in-Err.ensures.full.same) so.1,
      (line.0, line.2, finds_full cell talk old.asked text given so.0 _ so.1 line.0 _ ask_is (c.in-Err.ensures.full.full _ so.1.at)),
      omega (arith, so.3, c.loop-i-test.true),
    )

pub returns-in-Err-clause-takes : goal.returns-in-Err-clause-takes
returns-in-Err-clause-takes g c = λ some.
    omega (arith, c.loop-i.invariant.ahead, c.next_line.ensures.shorter c.if-not-next_line.false)

pub returns-in-Err-clause-stays : goal.returns-in-Err-clause-stays
returns-in-Err-clause-stays g c = subst (λ (s : Server _). Stays c.args.self.now s) (sym c.in-Err.ensures.full.same) c.loop-i.invariant.stays

pub returns-in-Err-clause-waiters : goal.returns-in-Err-clause-waiters
returns-in-Err-clause-waiters g c = subst (λ (s : Server _). KeepsWaiters s) (sym c.in-Err.ensures.full.same) c.loop-i.invariant.waiters

pub loop-i-preserved : goal.loop-i-preserved
loop-i-preserved g c =
    let so = c.loop-i.invariant in
    let answered = c.in_default.ensures.answered in
    record {
      goes_on = λ talk text given at reads.
          let old = c.args.self.now in
          let cell = old.live.cell in
          let taken = so.goes_on talk text given at reads in
          let line = c.next_line.ensures.whole c.if-not-next_line.false text _ taken.2 in
          let cell_is = c.over-indexed.ensures ∙ c.cell.ensures.cell ∙ ap (λ (s : CoreState). s.cell) c.core.ensures.core ∙ taken.1.cell_is in
          let ask_is = c.read_ask-ask.ensures.ask ∙ (λ i. ask_of (cell_is i) ((c.line-line.ensures ∙ line.1) i)) ∙ ask_of-kept cell line.0 in
          one_more cell talk old.asked text given taken.0 _ taken.1 line.0 _ ask_is c.answer.new.self c.next_line.new.self _ taken.3
          (answered.said _ taken.1.at) answered.goes_on line.2;
      stays = stays_more c.args.self.now _ c.answer.new.self so.stays answered.goes_on.stays;
      waiters = answered.waiters;
      ahead = omega (arith, so.ahead, c.next_line.ensures.shorter c.if-not-next_line.false);
      begins = λ e. absurd (omega (arith, e));
      pending = omega (arith, so.pending, answered.goes_on.told);
    }

pub returns-clause-taken : goal.returns-clause-taken
returns-clause-taken g c = λ talk text given at reads.
    let so = c.loop-i.invariant.goes_on talk text given at reads in (so.0, so.1, so.2, omega (arith, so.3))

pub returns-clause-takes : goal.returns-clause-takes
returns-clause-takes g c = λ some. omega (arith, c.loop-i.invariant.ahead)

pub returns-clause-stays : goal.returns-clause-stays
returns-clause-stays g c = c.loop-i.invariant.stays

pub returns-clause-waiters : goal.returns-clause-waiters
returns-clause-waiters g c = c.loop-i.invariant.waiters
