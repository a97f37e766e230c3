-- The last waiter watches the neighborhood for which it was refused.
use Rattle.std.proofs.Common.{◌≢◌, None, ◌*◌, ◌^◌, ◌%◌, ◌<◌, bit_or, Some, Option, List, [], ◌∷◌, ◌++◌, length, length-append, get_or, refl, sym, subst, ap, arith}
use Rattle.std.proofs.lemmas.List.Elements.{All-push}
use Rattle.cell_base.specs.declared.cells.ResId.{ResId}
use Rattle.cell_base.proofs.Bits.{has_bit_set_same}
use Rattle.wait_queue.specs.declared.waiter.Waiter.{Waiter}
use Rattle.wait_queue.specs.Counting.{AreCounted, CanCount, job_key, session_key}
use Rattle.wait_queue.specs.Queues.{QueueState}
use Rattle.wait_queue.specs.Watching.{AreCovered, AreWatched, AreWatching, IsCovered, IsWatch}
use Rattle.wait_queue.proofs.Counts.{can-count}
use Rattle.wait_queue.proofs.Entering.{saturated-held}
use Rattle.wait_queue.proofs.Looks.{covered-more, each-pushed}
use Rattle.wait_queue.proofs.queue.WaitQueue.push.Goals as goal

pub add-requires : goal.add-requires
add-requires c =
    let i = c.self.inside in
    let few : length i.waiters.items < i.room =
    subst (λ (q : QueueState). length q.waiters < q.room) (sym c.self.view_is) c.requires.room in
    subst (CanCount i.jobs) (sym c.job_number.ensures)
    (can-count job_key i.jobs i.waiters.items c.args.waiter c.self.invariant.job_places c.self.invariant.jobs_counted
    (omega (arith, few, c.self.ranges)))

pub add-requires-2 : goal.add-requires-2
add-requires-2 c =
    let i = c.self.inside in
    let few : length i.waiters.items < i.room =
    subst (λ (q : QueueState). length q.waiters < q.room) (sym c.self.view_is) c.requires.room in
    can-count session_key i.sessions i.waiters.items c.args.waiter c.self.invariant.session_places c.self.invariant.sessions_counted
    (omega (arith, few, c.self.ranges))

pub invariant_of-self : goal.invariant_of-self
invariant_of-self c =
    let i = c.self.inside in let old = c.self.invariant in let ws = i.waiters.items in let xs = i.watches.items in
    let new : Option ResId = Some c.args.at in
    let mask = bit_or i.watched (1 * 2 ^ c.args.at.0 % 2 ^ 64) in
    record {
      pairs = omega (
        arith,
        old.pairs,
        ap (λ (l : List Waiter). length l) c.push.ensures.items,
        ap (λ (l : List (Option ResId)). length l) c.push-2.ensures.items,
        length-append ws (c.args.waiter ∷ []),
        length-append xs (new ∷ []),
      );
      job_places = omega (arith, old.job_places, c.add.ensures.places);
      session_places = omega (arith, old.session_places, c.add-2.ensures.places);
      jobs_counted = subst (λ (l : List Waiter). AreCounted job_key c.add.new.self l) (sym c.push.ensures.items)
          (c.add.ensures.counted job_key ws c.args.waiter (sym c.job_number.ensures) old.jobs_counted);
      sessions_counted = subst (λ (l : List Waiter). AreCounted session_key c.add-2.new.self l) (sym c.push.ensures.items)
          (c.add-2.ensures.counted session_key ws c.args.waiter refl old.sessions_counted);
      covered = subst (λ (l : List (Option ResId)). AreCovered mask l) (sym c.push-2.ensures.items)
          (All-push (IsCovered mask) xs new
          (λ k d h. covered-more i.watched c.args.at.0 (get_or xs k d) (old.covered k d h))
          (has_bit_set_same i.watched c.args.at.0 c.requires.at));
      fresh = λ e. subst (λ (l : List (Option ResId)). AreWatched l) (sym c.push-2.ensures.items)
          (All-push (λ (w : Option ResId). w ≢ None) xs new (old.fresh e) (λ f. absurd (cc f)));
      waiters_room = omega (arith, old.waiters_room, c.push.ensures.spare, ap (λ (l : List Waiter). length l) c.push.ensures.items, length-append ws (c.args.waiter ∷ []));
      watches_room = omega (arith, old.watches_room, c.push-2.ensures.spare, ap (λ (l : List (Option ResId)). length l) c.push-2.ensures.items, length-append xs (new ∷ []));
    }

pub returns-clause-watching : goal.returns-clause-watching
returns-clause-watching c cell parts held units fits admitted fit is watching =
    let i = c.self.inside in
    let before = subst (λ (q : QueueState). AreWatching cell parts q.waiters q.watches) (sym c.self.view_is) watching in
    let new = (saturated-held cell parts admitted fits c.args.waiter.request fit c.args.at held units is).0 in
    let pushed = each-pushed (λ (w : Waiter) (x : Option ResId). IsWatch cell parts w.request x) i.waiters.items i.watches.items
    c.args.waiter (Some c.args.at) c.self.invariant.pairs before new in
    subst (λ (ws : List Waiter). AreWatching cell parts ws c.push-2.new.self.items) (sym c.push.ensures.items)
    (subst (λ (xs : List (Option ResId)). AreWatching cell parts (i.waiters.items ++ c.args.waiter ∷ []) xs)
    (sym c.push-2.ensures.items) pushed)
