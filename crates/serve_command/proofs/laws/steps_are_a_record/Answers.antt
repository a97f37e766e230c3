-- By the asks in turn.
use Rattle.serve_command.proofs.Histories.{is-block}
use Rattle.serve_command.proofs.laws.steps_are_a_record.Goals as goal

pub returns : goal.returns
returns c = is-block c.args.cell.now
