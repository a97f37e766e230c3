-- Every admitted state has a plan, and is admitted after its step.
use Rattle.std.proofs.Common.{◌≡◌, List, Option, Some, None, refl, sym, subst, ◌∙◌}
use Rattle.std.specs.Option.{option_map_or}
use Rattle.cell_base.specs.declared.cells.Cell.{Cell}
use Rattle.cell_base.specs.declared.requests.Part.{Part}
use Rattle.cell_base.specs.declared.requests.Request.{Request}
use Rattle.cell_base.specs.Outcomes.{state_after}
use Rattle.cell_base.specs.Policy.{IsAdmitted}
use Rattle.policy_laws.specs.Laws.{HasPlan}
use Rattle.policy_laws.proofs.Plans.{plan_law}
use Rattle.admission_core.specs.CoreState.{CoreState}
use Rattle.admission_core.proofs.admission.Core.take_plan_step.Goals as goal

-- the state after the plan's step, if there is one, is admitted
stays_admitted : (cell : Cell) (parts : List Part) (step : Option Request) → IsAdmitted cell parts
    → ((request : Request) → step ≡ Some request → IsAdmitted cell (state_after cell parts request))
    → IsAdmitted cell (option_map_or (state_after cell parts) step parts)
stays_admitted cell parts None admitted next = admitted
stays_admitted cell parts (Some request) admitted next = next request refl

pub invariant_of-self : goal.invariant_of-self
invariant_of-self c =
    let cell = c.self.inside.table in
    let parts = c.self.inside.tally.parts.parts in
    let sound = c.self.invariant.0 in
    let plan = plan_law cell sound.fits parts sound.admitted in (
      record {
        fits = sound.fits;
        admitted = rw c.take_step.ensures.parts
            (stays_admitted cell parts c.take_step.result sound.admitted
            (λ request e. (plan.step request (sym c.take_step.ensures.step ∙ e)).admitted));
        tallied = c.take_step.ensures.tallied;
      },
      c.take_step.ensures.marked,
    )

pub returns-clause-plan : goal.returns-clause-plan
returns-clause-plan c =
    let sound = c.self.invariant.0 in
    subst (λ (state : CoreState). HasPlan state.cell state.parts) c.self.view_is
    (plan_law c.self.inside.table sound.fits c.self.inside.tally.parts.parts sound.admitted)
