-- A script is no longer than all together.
use Rattle.std.proofs.Common.{length, arith}
use Rattle.cell_base.specs.Fits.{steps_of}
use Rattle.solo_rounds.proofs.Counting.{length-script-le}
use Rattle.cell_sessions.proofs.Sessions.{asks-le}
use Rattle.cell_sessions.proofs.run.run_at.Goals as goal

pub run_session-requires-clause-steps : goal.run_session-requires-clause-steps
run_session-requires-clause-steps g c =
    let few = length-script-le c.args.shift.now.scripts c.args.k c.get-script.result.now c.get-script.ensures in
    let all = c.requires.shift.steps in
    omega (arith, few, all)

pub run_session-requires-clause-asks : goal.run_session-requires-clause-asks
run_session-requires-clause-asks g c =
    let few = length-script-le c.args.shift.now.scripts c.args.k c.get-script.result.now c.get-script.ensures in
    let less = asks-le (length c.get-script.result.now) (steps_of c.args.shift.now) c.args.shift.now.patience few in
    let all = c.requires.shift.asks in
    omega (arith, less, all)
