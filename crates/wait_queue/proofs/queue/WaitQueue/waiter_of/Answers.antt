-- Where the table counts none of the session, it doesn't wait.
use Rattle.std.proofs.Common.{◌≡◌, None, Option, ◌%◌, length, sym, subst, ◌∙◌, find}
use Rattle.std.specs.List.{slice_index}
use Rattle.lists.proofs.Elements.{find_none}
use Rattle.wait_queue.specs.declared.waiter.Waiter.{Waiter}
use Rattle.wait_queue.specs.Queues.{QueueState}
use Rattle.wait_queue.specs.Waiting.{is_of_session}
use Rattle.wait_queue.proofs.Counts.{no-session, none-there}
use Rattle.wait_queue.proofs.queue.WaitQueue.waiter_of.Goals as goal

pub returns-then-not-has : goal.returns-then-not-has
returns-then-not-has c =
    let i = c.self.inside in let test = is_of_session c.args.session in
    let none = no-session i.sessions i.waiters.items c.args.session c.self.invariant.session_places c.self.invariant.sessions_counted
    (none-there (slice_index i.sessions (c.args.session % length i.sessions)) (sym c.has.ensures ∙ c.if-not-has.true)) in
    subst (λ (q : QueueState). ◌≡◌ {A = Option Waiter} None (find test q.waiters)) c.self.view_is (sym (find_none test i.waiters.items none))
