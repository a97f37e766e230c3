-- The masks of the cell of the table.
use Rattle.std.proofs.Common.{subst}
use Rattle.banker_check.specs.WayMasks.{HoldBeyond}
use Rattle.banker_check.proofs.fullness.fullness_of.Goals as goal

pub returns : goal.returns
returns c = record {
  full = subst (λ cell. HoldBeyond cell c.args.held.now 0 c.holding.result) c.cell-cell.ensures.value c.holding.ensures;
  over = subst (λ cell. HoldBeyond cell c.args.held.now 1 c.holding-2.result) c.cell-cell.ensures.value c.holding-2.ensures;
}
