-- Who waits stays.
use Rattle.serve_command.proofs.server.Server.keep.Goals as goal

pub returns-clause-waiters : goal.returns-clause-waiters
returns-clause-waiters g c = λ kept. record { fit = kept.fit; watching = kept.watching; few = kept.few; room = kept.room }
