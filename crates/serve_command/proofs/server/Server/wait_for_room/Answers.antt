-- All places are taken.
use Rattle.serve_command.proofs.server.Server.wait_for_room.Goals as goal

pub returns-then-waiting-from-clause-waiters : goal.returns-then-waiting-from-clause-waiters
returns-then-waiting-from-clause-waiters g c = c.turn_away.ensures.waiters c.requires.ready.waiters
