-- Each step takes out the first waiter that is ready, and where none is the scan is at its end.
use Rattle.std.specs.Prelude.{Option, None, Some}
use Rattle.std.proofs.Common.{◌≡◌, ◌+◌, List, [], ◌∷◌, ◌++◌, ap, arith, find, length, length-append, refl, subst, sym, ◌∙◌}
use Rattle.admission_core.specs.CoreState.{CoreState}
use Rattle.lists.proofs.Elements.{All-found, All-find_none}
use Rattle.cell_base.specs.Fits.{RequestFits}
use Rattle.cell_base.specs.declared.shifts.Grant.{Grant}
use Rattle.cell_base.specs.Histories.{grants}
use Rattle.wait_queue.specs.declared.waiter.Waiter.{Waiter}
use Rattle.wait_queue.specs.Waiting.{end_of, is_ready, waiting, without_first}
use Rattle.wait_queue.specs.Watching.{AreWatching}
use Rattle.wait_queue.proofs.Looks.{none-removed}
use Rattle.serve_command.specs.Answers.{ended_line}
use Rattle.serve_command.proofs.Answering.{grants-few}
use Rattle.serve_command.proofs.Scanning.{fewer, none_ended, one_ended, queue_ended, scan_ends, scan_goes, taken_kept}
use Rattle.serve_command.proofs.server.Server.settle.Goals as goal

pub loop-waiter-init : goal.loop-waiter-init
loop-waiter-init g c = record {
  ended = ([], none_ended c.args.self.now, refl);
  waiters = c.requires.waiters;
  fits = c.requires.fits;
  spare = c.requires.spare;
  short = c.requires.short;
}

pub take_ready-requires-clause-watching : goal.take_ready-requires-clause-watching
take_ready-requires-clause-watching g c =
    let now = c.loop-waiter.self in
    subst (λ (k : CoreState). AreWatching k.cell k.parts now.queue.waiters now.queue.watches) (sym c.core.ensures.core)
    c.loop-waiter.invariant.waiters.watching

pub end_wait-requires-clause-request : goal.end_wait-requires-clause-request
end_wait-requires-clause-request g c =
    let now = c.loop-waiter.self in
    let found : find (is_ready now.live.cell now.live.parts) now.queue.waiters ≡ Some c.in-Some.waiter =
    sym (subst (λ (k : CoreState). ◌≡◌ {A = Option Waiter} (Some c.in-Some.waiter) (find (is_ready k.cell k.parts) now.queue.waiters))
    c.core.ensures.core c.in-Some.ensures.found) in
    All-found (λ (waiter : Waiter). RequestFits now.live.cell waiter.request) (is_ready now.live.cell now.live.parts) now.queue.waiters
    c.in-Some.waiter c.loop-waiter.invariant.waiters.fit found

pub end_wait-requires-clause-waiters : goal.end_wait-requires-clause-waiters
end_wait-requires-clause-waiters g c =
    let now = c.loop-waiter.self in
    let queue = c.take_ready.new.self in
    taken_kept now queue (is_ready now.live.cell now.live.parts) c.loop-waiter.invariant.waiters
    (subst (λ (k : CoreState). queue.waiters ≡ without_first (is_ready k.cell k.parts) now.queue.waiters) c.core.ensures.core
    c.in-Some.ensures.others)
    (subst (λ (k : CoreState). AreWatching k.cell k.parts queue.waiters queue.watches) c.core.ensures.core c.in-Some.ensures.watching)
    c.in-Some.ensures.room

pub loop-waiter-smaller : goal.loop-waiter-smaller
loop-waiter-smaller g c =
    let now = c.loop-waiter.self in
    let queue = c.take_ready.new.self in
    let found : find (is_ready now.live.cell now.live.parts) now.queue.waiters ≡ Some c.in-Some.waiter =
    sym (subst (λ (k : CoreState). ◌≡◌ {A = Option Waiter} (Some c.in-Some.waiter) (find (is_ready k.cell k.parts) now.queue.waiters))
    c.core.ensures.core c.in-Some.ensures.found) in
    let others = subst (λ (k : CoreState). queue.waiters ≡ without_first (is_ready k.cell k.parts) now.queue.waiters) c.core.ensures.core
    c.in-Some.ensures.others in
    let ended = c.loop-waiter.invariant.ended in
    omega (arith, fewer c.args.self.now now c.end_wait.new.self ended.0 ended.1 queue c.in-Some.waiter found others c.end_wait.ensures.ended)

pub loop-waiter-preserved : goal.loop-waiter-preserved
loop-waiter-preserved g c =
    let start = c.args.self.now in
    let now = c.loop-waiter.self in
    let new = c.end_wait.new.self in
    let queue = c.take_ready.new.self in
    let inv = c.loop-waiter.invariant in
    let found : find (is_ready now.live.cell now.live.parts) now.queue.waiters ≡ Some c.in-Some.waiter =
    sym (subst (λ (k : CoreState). ◌≡◌ {A = Option Waiter} (Some c.in-Some.waiter) (find (is_ready k.cell k.parts) now.queue.waiters))
    c.core.ensures.core c.in-Some.ensures.found) in
    let others = subst (λ (k : CoreState). queue.waiters ≡ without_first (is_ready k.cell k.parts) now.queue.waiters) c.core.ensures.core
    c.in-Some.ensures.others in
    let one = c.end_wait.ensures.ended in
    let last = end_of now.live.cell now.live.parts c.in-Some.waiter in
    let less : length now.queue.waiters ≡ length new.queue.waiters + 1 =
    fewer start now new inv.ended.0 inv.ended.1 queue c.in-Some.waiter found others one in
    let more : length new.live.pending ≡ length now.live.pending + length (grants 0 (last ∷ [])) =
    ap (λ (gs : List Grant). length gs) one.pending ∙ length-append now.live.pending (grants 0 (last ∷ [])) in
    let few = grants-few (last ∷ []) in
    record {
      ended = (
        inv.ended.0 ++ last ∷ [],
        one_ended start now new inv.ended.0 inv.ended.1 queue c.in-Some.waiter found others one,
        scan_goes start now new inv.ended.0 inv.ended.1 queue c.in-Some.waiter found others one ∙ inv.ended.2,
      );
      waiters = c.end_wait.ensures.waiters;
      fits = omega (arith, inv.fits, less, more, few, one.stays.len);
      spare = omega (arith, inv.spare, less, more, few, one.stays.spare);
      short = omega (
        arith,
        inv.short,
        less,
        ap (λ (ls : List (List _)). length ls) one.replies,
        length-append now.replies (ended_line now.live.cell last ∷ []),
      );
    }

pub returns-clause-settled : goal.returns-clause-settled
returns-clause-settled g c =
    let start = c.args.self.now in
    let now = c.loop-waiter.self in
    let queue = c.take_ready.new.self in
    let test = is_ready now.live.cell now.live.parts in
    let ended = c.loop-waiter.invariant.ended in
    let none : find test now.queue.waiters ≡ None =
    sym (subst (λ (k : CoreState). ◌≡◌ {A = Option Waiter} None (find (is_ready k.cell k.parts) now.queue.waiters))
    c.core.ensures.core c.in_default.ensures.found) in
    let others = subst (λ (k : CoreState). queue.waiters ≡ without_first (is_ready k.cell k.parts) now.queue.waiters) c.core.ensures.core
    c.in_default.ensures.others in
    let same = others ∙ none-removed test now.queue.waiters (All-find_none test now.queue.waiters none) in (
      ended.0,
      queue_ended start now ended.0 queue same ended.1,
      ap (λ (ws : List Waiter). waiting now.live.parts ws ended.0) same
          ∙ sym (scan_ends start now ended.0 ended.1.stays.cell none) ∙ ended.2,
    )

pub returns-clause-waiters : goal.returns-clause-waiters
returns-clause-waiters g c =
    let now = c.loop-waiter.self in
    let queue = c.take_ready.new.self in
    taken_kept now queue (is_ready now.live.cell now.live.parts) c.loop-waiter.invariant.waiters
    (subst (λ (k : CoreState). queue.waiters ≡ without_first (is_ready k.cell k.parts) now.queue.waiters) c.core.ensures.core
    c.in_default.ensures.others)
    (subst (λ (k : CoreState). AreWatching k.cell k.parts queue.waiters queue.watches) c.core.ensures.core c.in_default.ensures.watching)
    c.in_default.ensures.room
