-- A word alone is one of three, or a step that none is; before other words it is the one that waits, or the first of a step.
use Rattle.std.proofs.Common.{sym, ◌∙◌}
use Rattle.serve_command.proofs.Asking.{asked_alone, step_asked_first, wait_asked_first}
use Rattle.serve_command.proofs.asks.other_of_session.Goals.{in_default-via-in-Some+else-eq, in_default-via-in-None-3+else-eq-4}
use Rattle.serve_command.proofs.asks.other_of_session.Goals as goal

pub returns-in-Some-clause-ask : goal.returns-in-Some-clause-ask
returns-in-Some-clause-ask c =
    c.wait_of.ensures.ask
    ∙ wait_asked_first (λ r. r.now) _ _ c.cut.result.1 c.cut.ensures c.in-Some.rest c.in-Some.is c.args.cell.now c.args.session
    (sym c.eq.ensures ∙ c.if-eq.true)

pub returns-in_default-clause-ask : goal.returns-in_default-clause-ask
returns-in_default-clause-ask c = elim c.in_default.branch [
  | in_default-via-in-Some+else-eq w ↦
      c.step_of.ensures.ask
      ∙ step_asked_first (λ r. r.now) _ _ c.cut.result.1 c.cut.ensures w.in-Some.rest w.in-Some.is c.args.cell.now c.args.session
      (sym w.eq.ensures ∙ w.if-eq.false)
  | in_default-via-in-None-3+else-eq-4 w ↦
      c.step_of.ensures.ask
      ∙ asked_alone (λ r. r.now) _ _ c.cut.result.1 c.cut.ensures w.in-None-3.is c.args.cell.now c.args.session
      (sym w.if-eq-2.ensures) (sym w.if-eq-3.ensures) (sym w.if-eq-4.ensures)
]
