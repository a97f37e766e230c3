-- The queue is without the waiter of the session, if it had one.
use Rattle.std.specs.Prelude.{Option, None, Some}
use Rattle.std.proofs.Common.{List, [], ap, refl, subst, sym, ◌∙◌}
use Rattle.lists.proofs.Elements.{All-found, All-find_none}
use Rattle.cell_base.specs.Fits.{RequestFits}
use Rattle.wait_queue.specs.declared.waiter.Waiter.{Waiter}
use Rattle.wait_queue.specs.Waiting.{is_of_session, waiter_of, without_first}
use Rattle.wait_queue.proofs.Looks.{none-removed}
use Rattle.serve_command.specs.Serving.{IsSaid}
use Rattle.serve_command.specs.Talks.{Cancels, cancelled}
use Rattle.serve_command.proofs.Answering.{kept_goes, kept_said}
use Rattle.serve_command.proofs.Scanning.{taken_kept}
use Rattle.serve_command.proofs.server.Server.cancel.Goals as goal

pub tell_cancel-requires-clause-fits : goal.tell_cancel-requires-clause-fits
tell_cancel-requires-clause-fits g c =
    let old = c.args.self.now in
    All-found (λ (waiter : Waiter). RequestFits old.live.cell waiter.request) (is_of_session c.args.session) old.queue.waiters
    c.in-Some.waiter c.requires.waiters.fit (sym c.in-Some.ensures.found)

pub returns-in-Some-clause-answered : goal.returns-in-Some-clause-answered
returns-in-Some-clause-answered g c = λ talk at.
    let old = c.args.self.now in
    let session = c.args.session in
    let waiter = c.in-Some.waiter in
    subst (λ (found : Option Waiter). IsSaid old.live.cell talk old [] (cancelled talk session found) c.tell_cancel.new.self)
    (c.in-Some.ensures.found ∙ ap (λ (ws : List Waiter). waiter_of ws session) at.waiters)
    (kept_said old c.tell_cancel.new.self c.cancel.new.self _ c.tell_cancel.ensures.kept old.live.cell talk [] (Cancels session (Some waiter.request))
    (without_first (is_of_session session) talk.waiters) at
    (c.in-Some.ensures.others ∙ ap (without_first (is_of_session session)) at.waiters) refl refl)

pub returns-in-Some-clause-goes_on : goal.returns-in-Some-clause-goes_on
returns-in-Some-clause-goes_on g c = kept_goes c.args.self.now c.tell_cancel.new.self c.cancel.new.self _ c.tell_cancel.ensures.kept

pub returns-in-Some-clause-waiters : goal.returns-in-Some-clause-waiters
returns-in-Some-clause-waiters g c =
    let old = c.args.self.now in
    c.tell_cancel.ensures.waiters
    (taken_kept old c.cancel.new.self (is_of_session c.args.session) c.requires.waiters c.in-Some.ensures.others
    (c.in-Some.ensures.watching old.live.cell old.live.parts c.requires.waiters.watching) c.in-Some.ensures.room)

pub returns-in-None-clause-answered : goal.returns-in-None-clause-answered
returns-in-None-clause-answered g c = λ talk at.
    let old = c.args.self.now in
    let session = c.args.session in
    let none = sym c.in-None.ensures.found in
    let same = c.in-None.ensures.others ∙ none-removed (is_of_session session) old.queue.waiters
    (All-find_none (is_of_session session) old.queue.waiters none) in
    subst (λ (found : Option Waiter). IsSaid old.live.cell talk old [] (cancelled talk session found) c.tell_cancel-in-None.new.self)
    (c.in-None.ensures.found ∙ ap (λ (ws : List Waiter). waiter_of ws session) at.waiters)
    (kept_said old c.tell_cancel-in-None.new.self c.cancel.new.self _ c.tell_cancel-in-None.ensures.kept old.live.cell talk []
    (Cancels session None) talk.waiters at (same ∙ at.waiters) refl refl)

pub returns-in-None-clause-goes_on : goal.returns-in-None-clause-goes_on
returns-in-None-clause-goes_on g c = kept_goes c.args.self.now c.tell_cancel-in-None.new.self c.cancel.new.self _ c.tell_cancel-in-None.ensures.kept

pub returns-in-None-clause-waiters : goal.returns-in-None-clause-waiters
returns-in-None-clause-waiters g c =
    let old = c.args.self.now in
    c.tell_cancel-in-None.ensures.waiters
    (taken_kept old c.cancel.new.self (is_of_session c.args.session) c.requires.waiters c.in-None.ensures.others
    (c.in-None.ensures.watching old.live.cell old.live.parts c.requires.waiters.watching) c.in-None.ensures.room)
