-- The law is proved as a lemma of that name.
use Rattle.policy_laws.proofs.Decisions.{decision_law as law}
use Rattle.policy_laws.proofs.laws.decision_law.Goals as goal

pub returns : goal.returns
returns c = law c.args.cell.now c.requires
