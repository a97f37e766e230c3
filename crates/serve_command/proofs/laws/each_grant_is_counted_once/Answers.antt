-- By the asks in turn.
use Rattle.serve_command.proofs.Histories.{each-once}
use Rattle.serve_command.proofs.laws.each_grant_is_counted_once.Goals as goal

pub returns : goal.returns
returns c = each-once c.args.cell.now
