-- Who waits already is turned away.
use Rattle.std.specs.Prelude.{codes}
use Rattle.std.proofs.Common.{List, ap, refl, sym, ◌∙◌}
use Rattle.wait_queue.specs.declared.waiter.Waiter.{Waiter}
use Rattle.wait_queue.specs.Waiting.{waiter_of}
use Rattle.serve_command.specs.Answers.{halted_line}
use Rattle.serve_command.specs.Talks.{Turns, said_none}
use Rattle.serve_command.specs.declared.asks.Ask.TheVariants.{Step}
use Rattle.serve_command.proofs.Answering.{asked_so, asked_waiting, kept_goes, kept_said, some_there}
use Rattle.serve_command.proofs.server.Server.answer_request.Goals as goal

pub returns-then-is_some-clause-answered : goal.returns-then-is_some-clause-answered
returns-then-is_some-clause-answered g c =
    let old = c.args.self.now in
    let new = c.turn_away.new.self in
    let cell = old.live.cell in
    let session = c.args.asked.now.session in
    let request = c.args.asked.now.request in
    let why = codes "already-waiting" in
    let found = some_there c.waiter_of.result (sym c.is_some.ensures ∙ c.if-is_some.true) in
    record {
      said = λ talk at. asked_so cell talk session request old new c.args.may_wait (said_none talk session request why)
          (asked_waiting cell talk session request c.args.may_wait found.0
          (ap (λ (ws : List Waiter). waiter_of ws session) (sym at.waiters) ∙ sym c.waiter_of.ensures ∙ found.1))
          (kept_said old new old.queue _ c.turn_away.ensures.kept cell talk (halted_line cell (Step session request))
          (Turns session request why) talk.waiters at at.waiters refl refl);
      goes_on = kept_goes old new old.queue _ c.turn_away.ensures.kept;
      waiters = c.turn_away.ensures.waiters c.requires.ready.waiters;
    }
