-- The law is proved as a lemma.
use Rattle.step_text.proofs.Unknown.{unknown_name}
use Rattle.step_text.proofs.laws.unknown_name_is_missing.Goals as goal

pub returns : goal.returns
returns c = unknown_name c.args.cell.now c.args.text.now
