-- A refused request leaves the state.
use Rattle.std.proofs.Common.{rules}
use Rattle.cell_base.specs.declared.cells.Cell.{Cell}
use Rattle.policy_laws.specs.Laws.{RefusalLaw}

pub refusal_leaves : (cell : Cell) → RefusalLaw cell
refusal_leaves cell parts request why is = search rules
