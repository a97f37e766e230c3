-- No fault is counted before the last try.
use Rattle.std.proofs.Common.{◌≡◌}
use Rattle.real_outside.proofs.in_source.InSourceSource.next_piece.Given as goal

abbrev pub invariant-loop : goal.invariant-loop
invariant-loop g l = l.self.faults ≡ l.initial.self.faults
