-- A session that goes on asks its present step, and ends by a reply or by a fault.
use Rattle.std.proofs.lemmas.Bool.{false≢true, not-true}
use Rattle.std.proofs.Common.{◌≡◌, sym, ◌∙◌, List, Some, slice_get, subst, arith}
use Rattle.cell_base.specs.declared.requests.Request.{Request}
use Rattle.cell_base.specs.Scripts.{HasEnded}
use Rattle.cell_base.specs.Scripts.{Progress as Place}
use Rattle.cell_sessions.specs.Progressing.{place_of}
use Rattle.cell_lock.specs.Passes.{Asked}
use Rattle.solo_rounds.proofs.Counting.{script_asks_left-falls}
use Rattle.solo_rounds.proofs.Going.{step_left, patience_left, within_next}
use Rattle.cell_sessions.proofs.Sessions.{Asks, answered, faulted}
use Rattle.cell_sessions.proofs.session.run_session.Goals as goal

pub after-at-requires-clause-step : goal.after-at-requires-clause-step
after-at-requires-clause-step g c =
    let i = c.asks.invariant in let at : Place = place_of c.asks.at in
    let going : HasEnded c.args.script.now c.args.patience at → ⊥ =
    λ ended. false≢true (sym (not-true c.asks.at.ended c.asks-test.true) ∙ i.tells.1 ended) in
    let left = step_left c.args.script.now c.args.patience at i.within going in
    omega (arith, left, c.requires.steps)

pub asks-preserved : goal.asks-preserved
asks-preserved g c =
    let script : List Request = c.args.script.now in
    let patience = c.args.patience in
    let at : Place = place_of c.asks.at in
    let i = c.asks.invariant in
    let going : HasEnded script patience at → ⊥ =
    λ ended. false≢true (sym (not-true c.asks.at.ended c.asks-test.true) ∙ i.tells.1 ended) in
    let patient = patience_left script patience at i.within going in
    let step = step_left script patience at i.within going in
    let goes = c.after-at.ensures.place in
    let asks : Asks script patience (place_of c.args.start) at c.args.pass.now c.asks.pass c.ask.new.pass c.get.result.now = record {
      asked = i.run;
      patient = patient;
      step = subst (λ n. slice_get script n ≡ Some c.get.result.now) c.from.ensures c.get.ensures;
      name = c.ask.ensures.same;
      seen = c.ask.ensures.seen;
    } in
    let fewer = script_asks_left-falls script patience at (place_of c.after-at.result) c.in-Ok.reply step patient goes in
    record {
      run = answered script patience (place_of c.args.start) asks c.in-Ok.reply (place_of c.after-at.result) c.in-Ok.ensures.answer goes;
      within = within_next script patience at i.within going (place_of c.after-at.result) c.in-Ok.reply goes;
      tells = c.after-at.ensures.ended;
      counted = omega (arith, i.counted, fewer, c.after-at.ensures.asked);
    }

pub asks-smaller : goal.asks-smaller
asks-smaller g c =
    let script : List Request = c.args.script.now in
    let patience = c.args.patience in
    let at : Place = place_of c.asks.at in
    let i = c.asks.invariant in
    let going : HasEnded script patience at → ⊥ =
    λ ended. false≢true (sym (not-true c.asks.at.ended c.asks-test.true) ∙ i.tells.1 ended) in
    script_asks_left-falls script patience at (place_of c.after-at.result) c.in-Ok.reply (step_left script patience at i.within going)
    (patience_left script patience at i.within going) c.after-at.ensures.place

pub returns-in_default : goal.returns-in_default
returns-in_default g c =
    let script : List Request = c.args.script.now in
    let patience = c.args.patience in
    let at : Place = place_of c.asks.at in
    let i = c.asks.invariant in
    let going : HasEnded script patience at → ⊥ =
    λ ended. false≢true (sym (not-true c.asks.at.ended c.asks-test.true) ∙ i.tells.1 ended) in
    let asks : Asks script patience (place_of c.args.start) at c.args.pass.now c.asks.pass c.ask.new.pass c.get.result.now = record {
      asked = i.run;
      patient = patience_left script patience at i.within going;
      step = subst (λ n. slice_get script n ≡ Some c.get.result.now) c.from.ensures c.get.ensures;
      name = c.ask.ensures.same;
      seen = c.ask.ensures.seen;
    } in
    faulted script patience (place_of c.args.start) asks c.in_default.field-0 going
    (subst (λ answer. Asked c.asks.pass c.get.result.now answer c.ask.new.pass) c.in_default.is c.ask.ensures.answer)
