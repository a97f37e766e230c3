-- By the asks in turn.
use Rattle.serve_command.proofs.Histories.{one-history}
use Rattle.serve_command.proofs.laws.steps_are_one_history.Goals as goal

pub returns : goal.returns
returns c = one-history c.args.cell.now
