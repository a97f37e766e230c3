-- A step is asked for in its own words.
use Rattle.std.proofs.Common.{sym}
use Rattle.serve_command.proofs.Asking.{step_of_session}
use Rattle.serve_command.proofs.asks.ask_of_session.Goals as goal

pub returns-in-Ok-clause-ask : goal.returns-in-Ok-clause-ask
returns-in-Ok-clause-ask c = step_of_session c.args.cell.now c.args.session c.args.text.now c.in-Ok.request (sym c.in-Ok.ensures.step)
