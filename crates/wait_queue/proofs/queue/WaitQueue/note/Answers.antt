-- The waiters of another job watch as before, and those of this one watch nothing.
use Rattle.std.proofs.Common.{◌≡◌, Some, None, Option, List, ◌%◌, ◌==◌, length, ap, sym, subst, ◌∙◌, arith}
use Rattle.std.specs.List.{slice_index}
use Rattle.std.proofs.lemmas.Bool.{eqb-true, not-false}
use Rattle.cell_base.specs.declared.cells.ResId.{ResId}
use Rattle.wait_queue.specs.declared.waiter.Waiter.{Waiter}
use Rattle.wait_queue.specs.Queues.{QueueState}
use Rattle.wait_queue.specs.Watching.{AreWatched, AreWatching, AreWithout, job_of}
use Rattle.cell_base.specs.Outcomes.{state_after}
use Rattle.wait_queue.proofs.Counts.{no-job}
use Rattle.wait_queue.proofs.Noting.{covered-without, noted-watching, unnoted-watching, neither, untouched}
use Rattle.wait_queue.proofs.queue.WaitQueue.note.Goals as goal

pub invariant_of-self : goal.invariant_of-self
invariant_of-self c =
    let i = c.self.inside in let old = c.self.invariant in
    let pairs : length c.forget-any.new.watches.items ≡ length i.waiters.items =
    c.forget-any.ensures.pairs ∙ ap (λ (ws : List Waiter). length ws) c.as_slice.ensures in
    let without = subst (λ (ws : List Waiter). AreWithout c.in-Some.job ws i.watches.items c.forget-any.new.watches.items)
    c.as_slice.ensures c.forget-any.ensures.without in
    record {
      pairs = pairs;
      job_places = old.job_places;
      session_places = old.session_places;
      jobs_counted = old.jobs_counted;
      sessions_counted = old.sessions_counted;
      covered = covered-without c.in-Some.job i.waiters.items i.watches.items c.forget-any.new.watches.items i.watched old.pairs pairs without
          old.covered;
      fresh = λ e.
          let both = neither i.is_stale c.forget-any.result (sym c.either-self-inside.ensures ∙ e) in
          subst (λ (xs : List (Option ResId)). AreWatched xs) (sym (c.forget-any.ensures.none both.1)) (old.fresh both.0);
      waiters_room = old.waiters_room;
      watches_room = omega (arith, old.watches_room, c.forget-any.ensures.spare, pairs, old.pairs);
    }

pub returns-then-has-clause-watching : goal.returns-then-has-clause-watching
returns-then-has-clause-watching c cell parts fits admitted fit granted watching =
    let i = c.self.inside in
    let is : job_of c.args.request.now ≡ Some c.in-Some.job = sym c.job_of.ensures ∙ c.in-Some.is in
    let before = subst (λ (q : QueueState). AreWatching cell parts q.waiters q.watches) (sym c.self.view_is) watching in
    let without = subst (λ (ws : List Waiter). AreWithout c.in-Some.job ws i.watches.items c.forget-any.new.watches.items)
    c.as_slice.ensures c.forget-any.ensures.without in
    noted-watching cell parts c.args.request.now c.in-Some.job i.waiters.items i.watches.items c.forget-any.new.watches.items fits admitted
    fit granted is without before

pub returns-else-has-clause-watching : goal.returns-else-has-clause-watching
returns-else-has-clause-watching c cell parts fits admitted fit granted watching =
    let i = c.self.inside in let job = c.in-Some.job in
    let is : job_of c.args.request.now ≡ Some job = sym c.job_of.ensures ∙ c.in-Some.is in
    let before = subst (λ (q : QueueState). AreWatching cell parts q.waiters q.watches) (sym c.self.view_is) watching in
    let none : slice_index i.jobs (job.0 % length i.jobs) ≡ 0 =
    eqb-true (slice_index i.jobs (job.0 % length i.jobs)) 0
    (not-false (slice_index i.jobs (job.0 % length i.jobs) == 0) (sym c.has.ensures ∙ c.if-has.false)) in
    let others = no-job i.jobs i.waiters.items job c.self.invariant.job_places c.self.invariant.jobs_counted none in
    subst (λ (q : QueueState). AreWatching cell (state_after cell parts c.args.request.now) q.waiters q.watches) c.self.view_is
    (noted-watching cell parts c.args.request.now job i.waiters.items i.watches.items i.watches.items fits admitted fit granted is
    (untouched job i.waiters.items i.watches.items others) before)

pub returns-in_default-clause-watching : goal.returns-in_default-clause-watching
returns-in_default-clause-watching c cell parts fits admitted fit granted watching =
    let is : job_of c.args.request.now ≡ None = sym c.in_default.ensures in
    unnoted-watching cell parts c.args.request.now c.args.self.now.waiters c.args.self.now.watches fits admitted fit granted is watching
