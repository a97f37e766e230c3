-- The session's step is there, and the rounds are under way after its ask.
use Rattle.std.proofs.Common.{ap, arith}
use Rattle.admission_core.specs.CoreState.{CoreState}
use Rattle.solo_rounds.proofs.Counting.{length-script-le, script_fits}
use Rattle.solo_rounds.proofs.Going.{goes_on_there, asks_left-falls, can_go_on}
use Rattle.solo_rounds.proofs.Asking.{asks}
use Rattle.solo_rounds.proofs.rounds.take_turn.Goals as goal

pub ask_step-next-requires-clause-few : goal.ask_step-next-requires-clause-few
ask_step-next-requires-clause-few c =
    omega (arith, length-script-le c.args.shift.now.scripts c.args.k c.get-script.result.now c.get-script.ensures, c.requires.shift.steps)

pub ask_step-next-requires-clause-script : goal.ask_step-next-requires-clause-script
ask_step-next-requires-clause-script c =
    script_fits c.args.core.now.cell c.args.shift.now.scripts c.args.k c.get-script.result.now c.get-script.ensures
    c.requires.shift.requests

pub returns-clause-ready : goal.returns-clause-ready
returns-clause-ready c =
    let goes =
    goes_on_there c.requires.ready c.requires.session c.get-script.ensures c.requires.shift.sessions.1 c.index-progress-k.result
    c.requires.going in
    can_go_on goes c.ask_step-next.result.1 _ c.ask_step-next.ensures.goes_on

pub returns-clause-fewer : goal.returns-clause-fewer
returns-clause-fewer c =
    let goes =
    goes_on_there c.requires.ready c.requires.session c.get-script.ensures c.requires.shift.sessions.1 c.index-progress-k.result
    c.requires.going in
    asks_left-falls goes c.ask_step-next.result.1 _ c.ask_step-next.ensures.goes_on

pub returns-clause-underway : goal.returns-clause-underway
returns-clause-underway c start history turn underway =
    let goes =
    goes_on_there c.requires.ready c.requires.session c.get-script.ensures c.requires.shift.sessions.1 c.index-progress-k.result
    c.requires.going in
    let told = c.ask_step-next.ensures in
    rw (told.entry, ap (λ (state : CoreState). state.parts) told.state)
    (asks c.args.shift.now c.args.core.now.cell start c.args.core.now.parts history c.args.progress.now turn c.args.k
    c.get-script.result.now _ _ goes underway told.request c.ask_step-next.result.1 told.step told.goes_on)
