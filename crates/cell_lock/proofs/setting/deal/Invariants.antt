-- The first k passes are dealt, and the seat has the numbers after them.
use Rattle.std.proofs.Common.{◌≡◌, ◌+◌, ◌-◌, ◌≤◌, []}
use Rattle.cell_lock.specs.Views.{initial_view}
use Rattle.cell_lock.specs.Passes.{new_passes}
use Rattle.cell_lock.specs.Steps.{lock_of}
use Rattle.cell_lock.proofs.setting.deal.Given as goal

abbrev pub invariant-loop-k : goal.invariant-loop-k
invariant-loop-k g l = record {
  table : l.seat.table_id ≡ l.initial.seat.table_id;
  left : l.seat.me ≡ (initial_view l.initial.seat.me.0.opening (l.k + 1) (l.passes - l.k), []);
  dealt : l.dealt.items ≡ new_passes g.D.Disk.moment (lock_of l.initial.seat) 1 l.k;
  room : l.passes ≤ l.dealt.spare + l.k;
}
