-- The requests are tried on a copy of the cell.
use Rattle.std.proofs.Common.{◌∙◌, ap, subst}
use Rattle.admission_core.specs.CoreState.{CoreState}
use Rattle.cell_base.specs.declared.cells.Cell.{Cell}
use Rattle.carry_commands.specs.Beginning.{IsRefusedStart, StartRefused}
use Rattle.carry_commands.proofs.starts.check_start.Goals as goal

pub returns-in-Some-clause-ended : goal.returns-in-Some-clause-ended
returns-in-Some-clause-ended c =
    let refused = subst (λ (cell : Cell). IsRefusedStart cell c.args.requests.now c.in-Some.fault)
    (ap (λ (core : CoreState). core.cell) c.in-Ok-open.ensures ∙ c.in-Ok.ensures) c.in-Some.ensures.some in
    StartRefused c.in-Some.fault refused.is c.at_start_fault.ensures
