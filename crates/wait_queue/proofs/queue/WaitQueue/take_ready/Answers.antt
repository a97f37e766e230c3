-- While all that is watched is full nobody is ready; else the waiters are looked at, and the first that is ready leaves.
use Rattle.std.proofs.Common.{◌≡◌, Some, None, Option, List, false, ap, sym, subst, ◌∙◌, All, find}
use Rattle.lists.proofs.Elements.{find_none}
use Rattle.wait_queue.specs.declared.looking.Found.TheVariants.{Ready}
use Rattle.wait_queue.specs.declared.waiter.Waiter.{Waiter}
use Rattle.wait_queue.specs.Queues.{QueueState}
use Rattle.wait_queue.specs.Waiting.{is_ready, without_first}
use Rattle.wait_queue.specs.Watching.{AreFit, AreWatching, IsFound}
use Rattle.wait_queue.proofs.Looks.{first-found, first-removed, none-removed}
use Rattle.wait_queue.proofs.Quiet.{nobody-ready}
use Rattle.wait_queue.proofs.queue.WaitQueue.take_ready.Goals as goal

pub returns-then-self-full-eq0-clause-found : goal.returns-then-self-full-eq0-clause-found
returns-then-self-full-eq0-clause-found c =
    let i = c.self.inside in let cell = c.args.core.now.cell in let parts = c.args.core.now.parts in
    let test = is_ready cell parts in
    let none = nobody-ready cell parts i.waiters.items i.watches.items i.watched c.full-full.result c.core_law.ensures.fits
    c.core_law.ensures.admitted (subst (λ (q : QueueState). AreFit cell q.waiters) (sym c.self.view_is) c.requires.fit)
    c.self.invariant.pairs
    (subst (λ (q : QueueState). AreWatching cell parts q.waiters q.watches) (sym c.self.view_is) c.requires.watching)
    c.self.invariant.covered (c.self.invariant.fresh c.if-not-self.true) c.full-full.ensures c.full-full.type_inv c.if-self-full-eq0.true in
    subst (λ (q : QueueState). ◌≡◌ {A = Option Waiter} None (find test q.waiters)) c.self.view_is (sym (find_none test i.waiters.items none))

pub returns-then-self-full-eq0-clause-others : goal.returns-then-self-full-eq0-clause-others
returns-then-self-full-eq0-clause-others c =
    let i = c.self.inside in let cell = c.args.core.now.cell in let parts = c.args.core.now.parts in
    let test = is_ready cell parts in
    let none = nobody-ready cell parts i.waiters.items i.watches.items i.watched c.full-full.result c.core_law.ensures.fits
    c.core_law.ensures.admitted (subst (λ (q : QueueState). AreFit cell q.waiters) (sym c.self.view_is) c.requires.fit)
    c.self.invariant.pairs
    (subst (λ (q : QueueState). AreWatching cell parts q.waiters q.watches) (sym c.self.view_is) c.requires.watching)
    c.self.invariant.covered (c.self.invariant.fresh c.if-not-self.true) c.full-full.ensures c.full-full.type_inv c.if-self-full-eq0.true in
    subst (λ (q : QueueState). q.waiters ≡ without_first test q.waiters) c.self.view_is (sym (none-removed test i.waiters.items none))

pub look-requires-clause-watching : goal.look-requires-clause-watching
look-requires-clause-watching c =
    let cell = c.args.core.now.cell in let parts = c.args.core.now.parts in
    subst (λ (ws : List Waiter). AreWatching cell parts ws c.self.inside.watches.items) (sym c.as_slice.ensures)
    (subst (λ (q : QueueState). AreWatching cell parts q.waiters q.watches) (sym c.self.view_is) c.requires.watching)

pub returns-in-Ready-clause-found : goal.returns-in-Ready-clause-found
returns-in-Ready-clause-found c =
    let i = c.self.inside in let cell = c.args.core.now.cell in let parts = c.args.core.now.parts in
    let test = is_ready cell parts in let w = c.take.result in let at = c.in-Ready.at in
    let found = subst (λ (ws : List Waiter). IsFound cell parts ws c.look.new.watches.items (Ready at)) c.as_slice.ensures
    c.in-Ready.ensures.found in
    let first = first-found test i.waiters.items at w found.0 (found.1 w).0 (found.1 w).1 in
    subst (λ (q : QueueState). ◌≡◌ {A = Option Waiter} (Some w) (find test q.waiters)) c.self.view_is
    (ap (λ (v : Waiter). Some v) c.take.ensures.waiter ∙ sym first)

pub returns-in-Ready-clause-others : goal.returns-in-Ready-clause-others
returns-in-Ready-clause-others c =
    let i = c.self.inside in let cell = c.args.core.now.cell in let parts = c.args.core.now.parts in
    let test = is_ready cell parts in let w = c.take.result in let at = c.in-Ready.at in
    let found = subst (λ (ws : List Waiter). IsFound cell parts ws c.look.new.watches.items (Ready at)) c.as_slice.ensures
    c.in-Ready.ensures.found in
    subst (λ (q : QueueState). c.take.new.self.waiters ≡ without_first test q.waiters) c.self.view_is
    (c.take.ensures.waiters ∙ first-removed test i.waiters.items at w found.0 (found.1 w).0 (found.1 w).1)

pub returns-in-Ready-clause-watching : goal.returns-in-Ready-clause-watching
returns-in-Ready-clause-watching c =
    let cell = c.args.core.now.cell in let parts = c.args.core.now.parts in
    c.take.ensures.watching cell parts
    (subst (λ (ws : List Waiter). AreWatching cell parts ws c.look.new.watches.items) c.as_slice.ensures c.in-Ready.ensures.watching)

pub returns-in-Nobody-clause-found : goal.returns-in-Nobody-clause-found
returns-in-Nobody-clause-found c =
    let i = c.self.inside in let cell = c.args.core.now.cell in let parts = c.args.core.now.parts in
    let test = is_ready cell parts in
    let none = subst (λ (ws : List Waiter). All (λ (w : Waiter). test w ≡ false) ws) c.as_slice.ensures c.in-Nobody.ensures.found.0 in
    subst (λ (q : QueueState). ◌≡◌ {A = Option Waiter} None (find test q.waiters)) c.self.view_is (sym (find_none test i.waiters.items none))

pub returns-in-Nobody-clause-others : goal.returns-in-Nobody-clause-others
returns-in-Nobody-clause-others c =
    let i = c.self.inside in let cell = c.args.core.now.cell in let parts = c.args.core.now.parts in
    let test = is_ready cell parts in
    let none = subst (λ (ws : List Waiter). All (λ (w : Waiter). test w ≡ false) ws) c.as_slice.ensures c.in-Nobody.ensures.found.0 in
    subst (λ (q : QueueState). i.waiters.items ≡ without_first test q.waiters) c.self.view_is (sym (none-removed test i.waiters.items none))

pub returns-in-Nobody-clause-watching : goal.returns-in-Nobody-clause-watching
returns-in-Nobody-clause-watching c =
    subst (λ (ws : List Waiter). AreWatching c.args.core.now.cell c.args.core.now.parts ws c.look.new.watches.items) c.as_slice.ensures
    c.in-Nobody.ensures.watching
