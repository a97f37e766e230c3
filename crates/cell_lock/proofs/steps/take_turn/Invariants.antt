-- The seat is as it was until a try succeeds.
use Rattle.std.proofs.Common.{◌≡◌}
use Rattle.cell_lock.proofs.steps.take_turn.Given as goal

abbrev pub invariant-loop : goal.invariant-loop
invariant-loop g l = record {
  table : l.seat.table_id ≡ l.initial.seat.table_id;
  view : l.seat.me ≡ l.initial.seat.me;
}
