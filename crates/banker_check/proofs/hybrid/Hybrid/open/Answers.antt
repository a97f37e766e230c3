-- No part is counted.
use Rattle.std.proofs.Common.{rules}
use Rattle.banker_check.proofs.Tallying.{counts-none}
use Rattle.banker_check.proofs.hybrid.Hybrid.open.Goals as goal

pub invariant_of-result : goal.invariant_of-result
invariant_of-result c = (search rules, rw c.in_ok-parts.ensures.items (counts-none c.in_ok-table.table))
