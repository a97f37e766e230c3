-- The waiters up to the present one are renewed, and the others are as they were.
use Rattle.std.proofs.Common.{◌≡◌, ◌++◌, map, take, drop, length}
use Rattle.wait_queue.specs.Waiting.{renewed}
use Rattle.wait_queue.proofs.waiter.renew_all.Given as goal

abbrev pub invariant-loop-i : goal.invariant-loop-i
invariant-loop-i l = record {
  items : l.waiters.items
      ≡ map (renewed l.core.cell l.core.parts) (take l.i l.fn.waiters.items) ++ drop l.i l.fn.waiters.items;
  len : length l.waiters.items ≡ length l.fn.waiters.items;
  spare : l.waiters.spare ≡ l.fn.waiters.spare;
}
