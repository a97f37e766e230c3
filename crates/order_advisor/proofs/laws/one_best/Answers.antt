-- Two best advices are the same.
use Rattle.order_advisor.proofs.One.{one_advice}
use Rattle.order_advisor.proofs.laws.one_best.Goals as goal

pub returns : goal.returns
returns c weighing = one_advice weighing c.args.cell.now
