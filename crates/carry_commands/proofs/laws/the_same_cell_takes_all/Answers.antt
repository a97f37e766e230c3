-- That the law holds.
use Rattle.carry_commands.proofs.SameCell.{same_cell}
use Rattle.carry_commands.proofs.laws.the_same_cell_takes_all.Goals as goal

pub returns : goal.returns
returns c = same_cell c.args.core.now.cell c.core_law.ensures.fits c.args.core.now.parts c.core_law.ensures.admitted
