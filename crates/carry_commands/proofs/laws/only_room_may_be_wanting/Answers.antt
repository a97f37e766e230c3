-- That the law holds.
use Rattle.carry_commands.proofs.CarriedState.{held_back}
use Rattle.carry_commands.proofs.laws.only_room_may_be_wanting.Goals as goal

pub returns : goal.returns
returns c = held_back c.args.old.now.cell c.args.new.now c.args.old.now.parts c.core_law.ensures.admitted.state.distinct
