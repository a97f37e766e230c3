-- What is left of the scan is the whole scan; each step takes a waiter out.
use Rattle.std.proofs.Common.{◌≡◌, ◌+◌, ◌≤◌, List, [], length}
use Rattle.cell_base.specs.declared.shifts.Entry.{Entry}
use Rattle.wait_queue.specs.Waiting.{served, waiting}
use Rattle.serve_command.specs.Serving.{KeepsWaiters}
use Rattle.serve_command.specs.Waits.{HaveEnded}
use Rattle.serve_command.proofs.server.Server.settle.Given as goal

abbrev pub invariant-loop-waiter : goal.invariant-loop-waiter
invariant-loop-waiter g l = record {
  ended : (told : List Entry) × HaveEnded l.fn.self told l.self
      × (served l.fn.self.live.cell (waiting l.self.live.parts l.self.queue.waiters told)
      ≡ served l.fn.self.live.cell (waiting l.fn.self.live.parts l.fn.self.queue.waiters []));
  waiters : KeepsWaiters l.self;
  fits : l.self.live.len + length l.self.live.pending + length l.self.queue.waiters ≤ 1572864;
  spare : length l.self.queue.waiters ≤ l.self.live.spare;
  short : length l.self.replies + length l.self.queue.waiters ≤ 9216;
}

abbrev pub decreases-loop-waiter : goal.decreases-loop-waiter
decreases-loop-waiter g l = length l.self.queue.waiters
