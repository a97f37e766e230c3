-- One waiter more, that watches the neighborhood for which it was refused.
use Rattle.std.specs.Prelude.{codes}
use Rattle.std.proofs.Common.{List, ℕ, ap, arith, length, length-append, subst, sym, ◌∙◌, ◌++◌, ◌+◌, ◌∷◌, []}
use Rattle.std.proofs.lemmas.List.Elements.{All-push}
use Rattle.admission_core.specs.CoreState.{CoreState}
use Rattle.cell_base.specs.declared.requests.Reply.TheVariants.{Refused}
use Rattle.cell_base.specs.Fits.{RequestFits}
use Rattle.record_text.specs.Lines.{line_after, why_words}
use Rattle.wait_queue.specs.declared.waiter.Waiter.{Waiter}
use Rattle.wait_queue.specs.Watching.{AreFit}
use Rattle.serve_command.specs.Answers.{line_number}
use Rattle.serve_command.proofs.Wording.{asked_line_is}
use Rattle.serve_command.proofs.server.Server.begin_wait.Goals as goal

pub returns-clause-begun : goal.returns-clause-begun
returns-clause-begun g c =
    let old = c.args.self.now in
    let asked = c.args.asked.now in
    let why = c.args.why in
    let cell_is = c.cell-cell.ensures.cell ∙ ap (λ (s : CoreState). s.cell) c.core.ensures.core in
    let line_is = c.said_line-line.ensures
    ∙ (λ i. line_after (c.of_word.ensures i) (codes "waits" ∷ why_words (cell_is i) why))
    ∙ asked_line_is old.live.cell asked.session asked.request asked.text.now (codes "waits" ∷ why_words old.live.cell why)
    c.requires.asked.text.is in
    let queue = c.push.new.self in
    record {
      queue = queue;
      waiters = c.push.ensures.waiters;
      is = c.keep.ensures.kept
          ∙ ap (λ (line : List ℕ). record old { queue = queue; replies = old.replies ++ line ∷ []; asked = line_number (old.asked + 1) }) line_is;
    }

pub returns-clause-waiters : goal.returns-clause-waiters
returns-clause-waiters g c =
    let old = c.args.self.now in
    let kept = c.requires.ready.waiters in
    let waiter : Waiter = record { session = c.args.asked.now.session; request = c.args.asked.now.request; refusal = c.args.why } in
    let full = c.requires.full in
    c.keep.ensures.waiters (record {
      fit = subst (AreFit old.live.cell) (sym c.push.ensures.waiters)
          (All-push (λ (w : Waiter). RequestFits old.live.cell w.request) old.queue.waiters waiter kept.fit c.requires.asked.fits);
      watching = c.push.ensures.watching old.live.cell old.live.parts full.0 full.1 c.core.ensures.fits c.core.ensures.admitted
          c.requires.asked.fits (c.requires.reply ∙ ap Refused full.2) kept.watching;
      few = omega (
        arith,
        c.requires.room,
        ap (λ (ws : List Waiter). length ws) c.push.ensures.waiters,
        length-append old.queue.waiters (waiter ∷ []),
      );
      room = c.push.ensures.room ∙ kept.room;
    })
