-- Each step is granted, or the writing of one fails.
use Rattle.std.proofs.Common.{inr, ◌∙◌, ap, subst, sym}
use Rattle.admission_core.specs.CoreState.{CoreState}
use Rattle.cell_base.specs.Plans.{plan_step}
use Rattle.policy_laws.specs.Laws.{HasPlan}
use Rattle.cell_commands.proofs.Asking.{goes_on, halts, has_room, nearer}
use Rattle.cell_commands.proofs.drain.ask_steps.Goals as goal

pub loop-step-smaller : goal.loop-step-smaller
loop-step-smaller g c =
    let law = subst (λ (core : CoreState). HasPlan core.cell core.parts) c.core.ensures.core c.plan_step.ensures.plan in
    let next = sym (c.in-Some.ensures.step ∙ ap (λ (core : CoreState). plan_step core.cell core.parts) c.core.ensures.core) in
    nearer c.args.durable.now c.loop-step.durable c.ask.new.self c.loop-step.invariant.so_far law c.in-Some.step next c.in-Ok.field-0
    c.in-Ok.ensures.answer

pub loop-step-preserved : goal.loop-step-preserved
loop-step-preserved g c =
    let law = subst (λ (core : CoreState). HasPlan core.cell core.parts) c.core.ensures.core c.plan_step.ensures.plan in
    let next = sym (c.in-Some.ensures.step ∙ ap (λ (core : CoreState). plan_step core.cell core.parts) c.core.ensures.core) in
    record {
      so_far = goes_on c.args.durable.now c.loop-step.durable c.ask.new.self c.loop-step.invariant.so_far law c.in-Some.step next
          c.in-Ok.field-0 c.in-Ok.ensures.answer;
    }

pub returns-in-Err-clause-drained : goal.returns-in-Err-clause-drained
returns-in-Err-clause-drained g c =
    let law = subst (λ (core : CoreState). HasPlan core.cell core.parts) c.core.ensures.core c.plan_step.ensures.plan in
    let next = sym (c.in-Some.ensures.step ∙ ap (λ (core : CoreState). plan_step core.cell core.parts) c.core.ensures.core) in
    inr (halts c.args.durable.now c.loop-step.durable c.ask.new.self c.loop-step.invariant.so_far law c.in-Some.step next
    c.core.ensures.kept
    (has_room c.args.durable.now c.durable_law.ensures.kept c.requires.fresh c.requires.limit c.durable_law.ensures.admitted)
    c.in-Err.field-0 c.in-Err.ensures.answer)
