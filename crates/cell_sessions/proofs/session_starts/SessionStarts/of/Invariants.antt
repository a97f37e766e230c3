-- The sessions so far have had no grant.
use Rattle.std.proofs.Common.{◌≡◌, replicate}
use Rattle.cell_base.specs.Scripts.{begin_at}
use Rattle.cell_sessions.proofs.session_starts.SessionStarts.of.Given as goal

abbrev pub invariant-loop : goal.invariant-loop
invariant-loop l = l.reached ≡ replicate l.counter (begin_at 0)
