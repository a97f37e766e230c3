-- The session's step in the table is the grant's request, and the session goes on after it; or it is another.
use Rattle.std.proofs.Common.{◌+◌, ◌-◌, slice_get, refl, sym, ap, ◌∙◌, arith}
use Rattle.std.proofs.lemmas.Bool.{false≢true}
use Rattle.std.proofs.lemmas.Option.{slice_get_within}
use Rattle.cell_base.specs.Scripts.{Progress, begin_at}
use Rattle.cell_sessions.proofs.Starts.{lead_on, next_there}
use Rattle.cell_sessions.proofs.session_starts.lead_on.Goals as goal
use Rattle.cell_sessions.proofs.session_starts.lead_on.Goals.{else-step-len-via-then-step-len+else-is_step, else-step-len-via-else-step-len}

pub returns-then-is_step-clause-led : goal.returns-then-is_step-clause-led
returns-then-is_step-clause-led c grants reached =
    let step = c.step-step.ensures ∙ ap (λ (at : Progress). at.step) c.index-reached-k.is in
    lead_on c.args.shift.now grants c.args.grant.now c.args.reached.now (c.args.grant.now.session - 1) c.requires.own (omega arith)
    c.get-script.result.now c.index-reached-k.result c.get-script.ensures (omega arith) reached c.begin_at.result
    (ap (λ s. slice_get c.get-script.result.now s) (sym step) ∙ c.if-is_step.ensures.0 refl)
    (c.begin_at.ensures ∙ ap (λ s. begin_at (s + 1)) step)

pub returns-clause-stray : goal.returns-clause-stray
returns-clause-stray c grants reached started =
    let next =
    next_there c.args.shift.now grants c.args.grant.now c.args.reached.now (c.args.grant.now.session - 1) c.requires.own (omega arith)
    c.get-script.result.now c.index-reached-k.result c.get-script.ensures (omega arith) reached started in
    let step = c.step-step.ensures ∙ ap (λ (at : Progress). at.step) c.index-reached-k.is in
    let there = ap (λ s. slice_get c.get-script.result.now s) step ∙ next in
    elim c.else-step-len.branch [
      | else-step-len-via-then-step-len+else-is_step w ↦ false≢true (w.if-is_step.ensures.1 there)
      | else-step-len-via-else-step-len w ↦
          absurd (omega (arith, slice_get_within c.get-script.result.now c.step-step.result _ there, c.len-2.ensures, w.if-step-len.false))
    ]
