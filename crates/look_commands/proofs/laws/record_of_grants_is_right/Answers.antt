-- That the law holds.
use Rattle.look_commands.proofs.Right.{grants_right}
use Rattle.look_commands.proofs.laws.record_of_grants_is_right.Goals as goal

pub returns : goal.returns
returns c = grants_right c.args.cell.now c.requires.cell c.args.grants.now c.requires.due
