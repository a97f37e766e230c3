-- The line of the resource, and one for each stage.
use Rattle.order_commands.proofs.Weighing.{members_shown}
use Rattle.order_commands.proofs.laws.shows_members.Goals as goal

pub returns : goal.returns
returns c = members_shown c.args.cell.now
