-- Each size is that of its list.
use Rattle.make_command.proofs.Sizes.{length-resources, length-sessions, length-types}
use Rattle.make_command.proofs.laws.sizes_are_fixed.Goals as goal

pub returns-clause-resources : goal.returns-clause-resources
returns-clause-resources c = length-resources c.args.number

pub returns-clause-types : goal.returns-clause-types
returns-clause-types c = length-types c.args.number

pub returns-clause-sessions : goal.returns-clause-sessions
returns-clause-sessions c = length-sessions c.args.number
