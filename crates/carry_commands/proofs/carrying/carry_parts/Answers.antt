-- The other cell is that of its core.
use Rattle.std.proofs.Common.{subst}
use Rattle.admission_core.specs.CoreState.{CoreState}
use Rattle.carry_commands.specs.Carrying.{EndsAtCarry}
use Rattle.carry_commands.proofs.carrying.carry_parts.Goals as goal

pub returns-clause-ended : goal.returns-clause-ended
returns-clause-ended c =
    subst (λ (core : CoreState). EndsAtCarry c.args.old.now.cell core.cell c.args.old.now.parts c.in-Err.end) c.in-Ok-open.ensures
    c.in-Err.ensures.ended
