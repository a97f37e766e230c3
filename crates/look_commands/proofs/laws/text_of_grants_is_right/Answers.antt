-- That the law holds.
use Rattle.look_commands.proofs.Written.{found_right, record_written}
use Rattle.look_commands.proofs.laws.text_of_grants_is_right.Goals as goal

pub returns-clause-written : goal.returns-clause-written
returns-clause-written c = record_written c.args.cell.now c.requires.cell c.args.grants.now c.requires.due c.requires.range

pub returns-clause-right : goal.returns-clause-right
returns-clause-right c text blocks is reads =
    found_right c.args.cell.now c.requires.cell c.args.grants.now c.requires.due c.requires.range text blocks is reads
