-- The entry is told as the rule of the table asks.
use Rattle.std.proofs.Common.{arith}
use Rattle.cell_lock.proofs.Turns.{grows}
use Rattle.cell_lock.proofs.steps.grow.Goals as goal

pub store-requires : goal.store-requires
store-requires g c =
    let grew = c.requires.grew in (
      c.requires.table.0,
      omega arith,
      grows _ _ _ _ _ _ _ _ _ _ _ _ grew.entry _ _ c.requires.acts.0 c.requires.acts.1 grew.ends grew.own c.requires.len,
    )
