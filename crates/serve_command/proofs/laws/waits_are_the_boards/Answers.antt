-- Each answer is that of the board.
use Rattle.serve_command.proofs.Boards.{goes-as-board}
use Rattle.serve_command.proofs.laws.waits_are_the_boards.Goals as goal

pub returns : goal.returns
returns c = goes-as-board c.args.cell.now c.scan_law.ensures
