-- Step by step the two scans take the same waiter.
use Rattle.wait_board.proofs.Serving.{same-scan}
use Rattle.wait_board.proofs.laws.scan_law.Goals as goal

pub returns : goal.returns
returns c = same-scan c.args.cell.now
