-- Words are no command exactly where none is written so.
use Rattle.command_words.proofs.Written.{unwritten}
use Rattle.command_words.proofs.commands.command_of.Goals as goal

pub returns-clause-none : goal.returns-clause-none
returns-clause-none c = unwritten _ _ c.decide.ensures.none
