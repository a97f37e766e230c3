-- The refusal is told.
use Rattle.serve_command.proofs.server.Server.answer_refusal.Goals as goal

pub returns-in_default-clause-waiters : goal.returns-in_default-clause-waiters
returns-in_default-clause-waiters g c = c.tell.ensures.waiters c.requires.ready.waiters
