-- The law is proved as a lemma of that name.
use Rattle.banker_check.proofs.HybridDecisions.{hybrid_decision_law as law}
use Rattle.banker_check.proofs.laws.hybrid_decision_law.Goals as goal

pub returns : goal.returns
returns c = law c.args.cell.now c.requires
