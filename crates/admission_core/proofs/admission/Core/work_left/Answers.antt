-- Every admitted state has a plan.
use Rattle.std.proofs.Common.{subst}
use Rattle.policy_laws.specs.Laws.{HasPlan}
use Rattle.policy_laws.proofs.Plans.{plan_law}
use Rattle.admission_core.specs.CoreState.{CoreState}
use Rattle.admission_core.proofs.admission.Core.work_left.Goals as goal

pub returns-clause-plan : goal.returns-clause-plan
returns-clause-plan c =
    let sound = c.self.invariant.0 in
    subst (λ (state : CoreState). HasPlan state.cell state.parts) c.self.view_is
    (plan_law c.self.inside.table sound.fits c.self.inside.tally.parts.parts sound.admitted)
