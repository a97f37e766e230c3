-- The sessions so far have begun.
use Rattle.std.proofs.Common.{List}
use Rattle.cell_base.specs.declared.shifts.Grant.{Grant}
use Rattle.cell_sessions.specs.Starting.{IsReached}
use Rattle.cell_sessions.proofs.BegunSessions.{HaveBegun}
use Rattle.cell_sessions.proofs.beginning.begin_at.Given as goal

abbrev pub invariant-loop-k : goal.invariant-loop-k
invariant-loop-k l = (grants : List Grant) → IsReached l.shift grants l.reached → HaveBegun l.shift grants l.k l.progress
