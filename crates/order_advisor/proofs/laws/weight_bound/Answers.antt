-- The bound is the lemma on it.
use Rattle.order_advisor.proofs.Bounds.{weight_bound as bound}
use Rattle.order_advisor.proofs.laws.weight_bound.Goals as goal

pub returns : goal.returns
returns c = bound c.args.cell.now c.requires
