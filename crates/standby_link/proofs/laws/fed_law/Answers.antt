-- The law is proved as a lemma of that name.
use Rattle.standby_link.proofs.Fed.{fed_law as law}
use Rattle.standby_link.proofs.laws.fed_law.Goals as goal

pub returns : goal.returns
returns c = law c.args.cell.now
