-- Nobody waits, so nobody is counted.
use Rattle.std.proofs.Common.{List, ap, sym, subst, rules}
use Rattle.lists.specs.Shelves.{Shelved}
use Rattle.wait_queue.specs.declared.waiter.Waiter.{Waiter}
use Rattle.wait_queue.specs.Counting.{AreCounted, job_key, session_key}
use Rattle.wait_queue.proofs.queue.WaitQueue.with_room.Goals as goal

pub invariant_of-result : goal.invariant_of-result
invariant_of-result c =
    let none = ap (λ (s : Shelved Waiter). s.items) c.in_ok-with_room.ensures in
    record {
      pairs = search rules;
      job_places = c.in_ok-new.ensures.places;
      session_places = c.in_ok-new-2.ensures.places;
      jobs_counted = subst (λ (ws : List Waiter). AreCounted job_key c.in_ok-new.field-0 ws) (sym none)
          (c.in_ok-new.ensures.counted job_key);
      sessions_counted = subst (λ (ws : List Waiter). AreCounted session_key c.in_ok-new-2.field-0 ws) (sym none)
          (c.in_ok-new-2.ensures.counted session_key);
      covered = search rules;
      fresh = search rules;
      waiters_room = search rules;
      watches_room = search rules;
    }
