-- The law of the policy, at the state of a core, which is admitted.
use Rattle.policy_laws.proofs.Requests.{move_law}
use Rattle.admission_core.proofs.laws.move_to_no_lesser_order_is_granted.Goals as goal

pub returns : goal.returns
returns c part to may order =
    (move_law c.args.core.now.cell c.core_law.ensures.fits c.args.core.now.parts c.core_law.ensures.admitted c.args.job
    c.args.branch part to may
    order).granted
