-- The lines are counted resource by resource.
use Rattle.order_commands.proofs.Weighing.{lines_shown}
use Rattle.order_commands.proofs.laws.shows_weight.Goals as goal

pub returns : goal.returns
returns c = lines_shown c.args.cell.now
