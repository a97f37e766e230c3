-- Each answer leaves nobody who could be granted.
use Rattle.serve_command.proofs.Settled.{settled_always}
use Rattle.serve_command.proofs.laws.nobody_waits_that_could_be_granted.Goals as goal

pub returns : goal.returns
returns c = settled_always c.args.cell.now
