-- The session whose turn it is has asked; or all have ended, and the history is whole.
use Rattle.std.proofs.Common.{◌≤◌, length, refl, subst, sym}
use Rattle.solo_rounds.specs.Standing.{Standing}
use Rattle.solo_rounds.specs.Underway.{HaveEnded, IsUnderway}
use Rattle.solo_rounds.proofs.Ends.{finish}
use Rattle.solo_rounds.proofs.Turns.{pass_to_next}
use Rattle.solo_rounds.proofs.rounds.Rounds.ask.Goals as goal

pub returns-in-Some-clause-asked : goal.returns-in-Some-clause-asked
returns-in-Some-clause-asked c start history asking =
    let shift = c.args.shift.now in
    let cell = c.args.core.now.cell in
    let parts = c.args.core.now.parts in
    let at = c.self.inside in
    let next = subst (λ (s : Standing). s.next ≤ length shift.scripts) (sym c.self.view_is) c.requires.ready.next in
    let underway = subst (λ (s : Standing). IsUnderway shift cell start parts history s.progress asking.turn s.next) (sym c.self.view_is)
    asking.underway in
    let here = pass_to_next shift cell start parts history at.progress asking.turn at.next c.in-Some.k next c.in-Some.ensures.going
    underway in
    record {
      turn = here.0;
      underway = rw c.take_turn-entry.ensures.cell (c.take_turn-entry.ensures.underway start history here.0 here.1);
    }

pub returns-in-None-clause-ended : goal.returns-in-None-clause-ended
returns-in-None-clause-ended c start history asking =
    let shift = c.args.shift.now in
    let ended = subst (λ (at : Standing). HaveEnded shift at.progress (length shift.scripts)) c.self.view_is c.in-None.ensures.none in (
      finish shift c.args.core.now.cell start c.args.core.now.parts history c.args.self.now.progress asking.turn
          c.args.self.now.next asking.underway ended,
      refl,
    )
