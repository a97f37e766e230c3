-- The first waiter of the session leaves.
use Rattle.std.specs.Prelude.{position}
use Rattle.std.proofs.Common.{◌≡◌, Some, None, Option, ◌%◌, length, ap, sym, subst, ◌∙◌, find}
use Rattle.std.specs.List.{slice_index}
use Rattle.lists.proofs.Elements.{find_none}
use Rattle.std.proofs.lemmas.List.Quantifiers.{position-Some}
use Rattle.wait_queue.specs.declared.waiter.Waiter.{Waiter}
use Rattle.wait_queue.specs.Queues.{QueueState}
use Rattle.wait_queue.specs.Waiting.{is_of_session, without_first}
use Rattle.wait_queue.proofs.Counts.{no-session, none-there}
use Rattle.wait_queue.proofs.Looks.{first-found, first-removed, nobody, none-removed, unplaced-find, unplaced-rest}
use Rattle.wait_queue.proofs.queue.WaitQueue.cancel.Goals as goal

pub returns-then-not-has-clause-found : goal.returns-then-not-has-clause-found
returns-then-not-has-clause-found c =
    let i = c.self.inside in let test = is_of_session c.args.session in
    let none = no-session i.sessions i.waiters.items c.args.session c.self.invariant.session_places c.self.invariant.sessions_counted
    (none-there (slice_index i.sessions (c.args.session % length i.sessions)) (sym c.has.ensures ∙ c.if-not-has.true)) in
    subst (λ (q : QueueState). ◌≡◌ {A = Option Waiter} None (find test q.waiters)) c.self.view_is (sym (find_none test i.waiters.items none))

pub returns-then-not-has-clause-others : goal.returns-then-not-has-clause-others
returns-then-not-has-clause-others c =
    let i = c.self.inside in let test = is_of_session c.args.session in
    let none = no-session i.sessions i.waiters.items c.args.session c.self.invariant.session_places c.self.invariant.sessions_counted
    (none-there (slice_index i.sessions (c.args.session % length i.sessions)) (sym c.has.ensures ∙ c.if-not-has.true)) in
    subst (λ (q : QueueState). q.waiters ≡ without_first test q.waiters) c.self.view_is (sym (none-removed test i.waiters.items none))

pub take-requires : goal.take-requires
take-requires c =
    let ws = c.args.self.now.waiters in let test = is_of_session c.args.session in
    let is = subst (λ (q : QueueState). position test q.waiters ≡ Some c.in-Some.at) c.self.view_is
    (ap (position test) (sym c.as_slice.ensures) ∙ sym c.place_of.ensures ∙ c.in-Some.is) in
    (position-Some test ws c.in-Some.at nobody is).0

pub returns-in-Some-clause-found : goal.returns-in-Some-clause-found
returns-in-Some-clause-found c =
    let ws = c.args.self.now.waiters in let test = is_of_session c.args.session in let w = c.take.result in
    let is = subst (λ (q : QueueState). position test q.waiters ≡ Some c.in-Some.at) c.self.view_is
    (ap (position test) (sym c.as_slice.ensures) ∙ sym c.place_of.ensures ∙ c.in-Some.is) in
    let some = position-Some test ws c.in-Some.at w is in
    ap (λ (v : Waiter). Some v) c.take.ensures.waiter ∙ sym (first-found test ws c.in-Some.at w some.0 some.1 some.2)

pub returns-in-Some-clause-others : goal.returns-in-Some-clause-others
returns-in-Some-clause-others c =
    let ws = c.args.self.now.waiters in let test = is_of_session c.args.session in let w = c.take.result in
    let is = subst (λ (q : QueueState). position test q.waiters ≡ Some c.in-Some.at) c.self.view_is
    (ap (position test) (sym c.as_slice.ensures) ∙ sym c.place_of.ensures ∙ c.in-Some.is) in
    let some = position-Some test ws c.in-Some.at w is in
    c.take.ensures.waiters ∙ first-removed test ws c.in-Some.at w some.0 some.1 some.2

pub returns-in-None-clause-found : goal.returns-in-None-clause-found
returns-in-None-clause-found c =
    let i = c.self.inside in let test = is_of_session c.args.session in
    let is : position test i.waiters.items ≡ None = ap (position test) (sym c.as_slice.ensures) ∙ sym c.in-None.ensures in
    subst (λ (q : QueueState). ◌≡◌ {A = Option Waiter} None (find test q.waiters)) c.self.view_is (sym (unplaced-find test i.waiters.items is))

pub returns-in-None-clause-others : goal.returns-in-None-clause-others
returns-in-None-clause-others c =
    let i = c.self.inside in let test = is_of_session c.args.session in
    let is : position test i.waiters.items ≡ None = ap (position test) (sym c.as_slice.ensures) ∙ sym c.in-None.ensures in
    subst (λ (q : QueueState). q.waiters ≡ without_first test q.waiters) c.self.view_is (sym (unplaced-rest test i.waiters.items is))
