-- The waiters keep their requests, so what they watch and how many there are of each job stays.
use Rattle.std.proofs.Common.{List, length, ap, refl, sym, subst, arith}
use Rattle.std.proofs.lemmas.List.{length-map}
use Rattle.wait_queue.specs.declared.waiter.Waiter.{Waiter}
use Rattle.wait_queue.specs.Counting.{AreCounted, job_key, session_key}
use Rattle.wait_queue.specs.Queues.{QueueState}
use Rattle.wait_queue.specs.Waiting.{renewed}
use Rattle.wait_queue.specs.Watching.{AreWatching}
use Rattle.wait_queue.proofs.Renewing.{counted-renewed, watching-renewed}
use Rattle.wait_queue.proofs.queue.WaitQueue.renew.Goals as goal

pub invariant_of-self : goal.invariant_of-self
invariant_of-self c =
    let i = c.self.inside in let old = c.self.invariant in
    let f = renewed c.args.core.now.cell c.args.core.now.parts in
    let is = c.renew_all.ensures.renewed in
    record {
      pairs = omega (arith, old.pairs, ap (λ (ws : List Waiter). length ws) is, length-map i.waiters.items f);
      job_places = old.job_places;
      session_places = old.session_places;
      jobs_counted = subst (λ (ws : List Waiter). AreCounted job_key i.jobs ws) (sym is)
          (counted-renewed c.args.core.now.cell c.args.core.now.parts job_key (λ w. refl) i.jobs i.waiters.items old.jobs_counted);
      sessions_counted = subst (λ (ws : List Waiter). AreCounted session_key i.sessions ws) (sym is)
          (counted-renewed c.args.core.now.cell c.args.core.now.parts session_key (λ w. refl) i.sessions i.waiters.items
          old.sessions_counted);
      covered = old.covered;
      fresh = old.fresh;
      waiters_room = omega (arith, old.waiters_room, c.renew_all.ensures.spare, ap (λ (ws : List Waiter). length ws) is, length-map i.waiters.items f);
      watches_room = old.watches_room;
    }

pub returns-clause-watching : goal.returns-clause-watching
returns-clause-watching c cell parts watching =
    let i = c.self.inside in
    let before = subst (λ (q : QueueState). AreWatching cell parts q.waiters q.watches) (sym c.self.view_is) watching in
    subst (λ (ws : List Waiter). AreWatching cell parts ws i.watches.items) (sym c.renew_all.ensures.renewed)
    (watching-renewed c.args.core.now.cell c.args.core.now.parts cell parts i.waiters.items i.watches.items before)
