-- A scan leaves nobody who is ready.
use Rattle.wait_queue.proofs.Settling.{after-scan}
use Rattle.wait_queue.proofs.laws.served_law.Goals as goal

pub returns : goal.returns
returns c = after-scan c.args.cell.now
