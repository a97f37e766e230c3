-- The law is proved as a lemma of that name.
use Rattle.banker_check.proofs.HybridEndings.{blocked_law as law}
use Rattle.banker_check.proofs.laws.blocked_law.Goals as goal

pub returns : goal.returns
returns c = law c.args.cell.now c.requires
