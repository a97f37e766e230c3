-- The waiter leaves with its watch and its place in the table, and the others are as before.
use Rattle.std.proofs.Common.{◌≢◌, ◌<◌, None, Option, List, length, ap, refl, sym, subst, ◌∙◌, arith}
use Rattle.std.specs.List.{remove}
use Rattle.std.proofs.lemmas.List.Edits.{length-remove}
use Rattle.cell_base.specs.declared.cells.ResId.{ResId}
use Rattle.wait_queue.specs.declared.waiter.Waiter.{Waiter}
use Rattle.wait_queue.specs.Counting.{AreCounted, CountsOne, job_key, session_key}
use Rattle.wait_queue.specs.Queues.{QueueState}
use Rattle.wait_queue.specs.Watching.{AreCovered, AreWatched, AreWatching, IsCovered, IsWatch}
use Rattle.wait_queue.proofs.Counts.{counts-one}
use Rattle.wait_queue.proofs.Looks.{all-removed, each-removed, pairs-removed}
use Rattle.wait_queue.proofs.queue.WaitQueue.take.Goals as goal

pub remove-requires : goal.remove-requires
remove-requires c =
    let i = c.self.inside in
    let within : c.args.at < length i.waiters.items =
    subst (λ (q : QueueState). c.args.at < length q.waiters) (sym c.self.view_is) c.requires in
    subst (CountsOne i.jobs) (sym c.job_number.ensures)
    (counts-one job_key i.jobs i.waiters.items c.args.at c.take-waiter.result c.self.invariant.job_places within
    (sym c.take-waiter.ensures.value) c.self.invariant.jobs_counted)

pub remove-requires-2 : goal.remove-requires-2
remove-requires-2 c =
    let i = c.self.inside in
    let within : c.args.at < length i.waiters.items =
    subst (λ (q : QueueState). c.args.at < length q.waiters) (sym c.self.view_is) c.requires in
    counts-one session_key i.sessions i.waiters.items c.args.at c.take-waiter.result c.self.invariant.session_places within
    (sym c.take-waiter.ensures.value) c.self.invariant.sessions_counted

pub invariant_of-self : goal.invariant_of-self
invariant_of-self c =
    let i = c.self.inside in let at = c.args.at in let old = c.self.invariant in
    let within : at < length i.waiters.items =
    subst (λ (q : QueueState). at < length q.waiters) (sym c.self.view_is) c.requires in
    record {
      pairs = ap (λ (xs : List (Option ResId)). length xs) c.take.ensures.items
          ∙ pairs-removed i.waiters.items i.watches.items at old.pairs
          ∙ sym (ap (λ (ws : List Waiter). length ws) c.take-waiter.ensures.items);
      job_places = omega (arith, old.job_places, c.remove.ensures.places);
      session_places = omega (arith, old.session_places, c.remove-2.ensures.places);
      jobs_counted = subst (λ (ws : List Waiter). AreCounted job_key c.remove.new.self ws) (sym c.take-waiter.ensures.items)
          (c.remove.ensures.counted job_key i.waiters.items at c.take-waiter.result (sym c.job_number.ensures) within
          (sym c.take-waiter.ensures.value) old.jobs_counted);
      sessions_counted = subst (λ (ws : List Waiter). AreCounted session_key c.remove-2.new.self ws) (sym c.take-waiter.ensures.items)
          (c.remove-2.ensures.counted session_key i.waiters.items at c.take-waiter.result refl within
          (sym c.take-waiter.ensures.value) old.sessions_counted);
      covered = subst (λ (xs : List (Option ResId)). AreCovered i.watched xs) (sym c.take.ensures.items)
          (all-removed (IsCovered i.watched) i.watches.items at old.covered);
      fresh = λ e. subst (λ (xs : List (Option ResId)). AreWatched xs) (sym c.take.ensures.items)
          (all-removed (λ (w : Option ResId). w ≢ None) i.watches.items at (old.fresh e));
      waiters_room = omega (
        arith,
        old.waiters_room,
        c.take-waiter.ensures.spare,
        ap (λ (ws : List Waiter). length ws) c.take-waiter.ensures.items,
        length-remove i.waiters.items at within,
      );
      watches_room = omega (
        arith,
        old.watches_room,
        c.take.ensures.spare,
        ap (λ (xs : List (Option ResId)). length xs) c.take.ensures.items,
        length-remove i.watches.items at (omega (arith, old.pairs, within)),
      );
    }

pub returns-clause-watching : goal.returns-clause-watching
returns-clause-watching c cell parts watching =
    let i = c.self.inside in let at = c.args.at in
    let before = subst (λ (q : QueueState). AreWatching cell parts q.waiters q.watches) (sym c.self.view_is) watching in
    subst (λ (ws : List Waiter). AreWatching cell parts ws c.take.new.self.items) (sym c.take-waiter.ensures.items)
    (subst (λ (xs : List (Option ResId)). AreWatching cell parts (remove i.waiters.items at) xs) (sym c.take.ensures.items)
    (each-removed (λ (w : Waiter) (x : Option ResId). IsWatch cell parts w.request x) i.waiters.items i.watches.items at
    c.self.invariant.pairs before))
