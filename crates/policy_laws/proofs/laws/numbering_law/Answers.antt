-- The law is proved as a lemma of that name.
use Rattle.cell_base.proofs.Numbering.{numbering_law as law}
use Rattle.policy_laws.proofs.laws.numbering_law.Goals as goal

pub returns : goal.returns
returns c = law c.args.cell.now
