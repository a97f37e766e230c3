-- Words ask for a shift exactly where they are written so.
use Rattle.solo_program.proofs.Written.{unwritten, written}
use Rattle.solo_program.proofs.asked.asked_in.Goals as goal

pub returns-clause-written : goal.returns-clause-written
returns-clause-written c = written _ _ c.decide.ensures

pub returns-clause-none : goal.returns-clause-none
returns-clause-none c = unwritten _ _ c.decide.ensures
