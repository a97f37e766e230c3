-- The law of the policy.
use Rattle.policy_laws.proofs.Requests.{unload_law}
use Rattle.admission_core.proofs.laws.unload_is_never_saturated.Goals as goal

pub returns : goal.returns
returns c at held units = (unload_law c.args.core.now.cell).unsaturated c.args.core.now.parts c.args.job at held units
