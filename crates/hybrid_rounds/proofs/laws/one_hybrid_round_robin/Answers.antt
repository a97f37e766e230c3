-- The law is the lemma on histories in rounds.
use Rattle.hybrid_rounds.proofs.OneHistory.{one_history}
use Rattle.hybrid_rounds.proofs.laws.one_hybrid_round_robin.Goals as goal

pub returns : goal.returns
returns c = one_history c.args.cell.now c.args.parts.now c.args.shift.now c.args.one.now c.args.other.now c.requires.one c.requires.other
