-- By the asks in turn.
use Rattle.serve_command.proofs.Waits.{ends-each-wait}
use Rattle.serve_command.proofs.laws.each_wait_ends_once.Goals as goal

pub returns : goal.returns
returns c = ends-each-wait c.args.cell.now
