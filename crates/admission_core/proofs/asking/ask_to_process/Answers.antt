-- Where no part waits, all parts are as before.
use Rattle.std.proofs.Common.{sym, ◌∙◌}
use Rattle.cell_base.specs.Outcomes.{is_waiting_on}
use Rattle.part_table.proofs.Told.{finish_first-none}
use Rattle.admission_core.proofs.Moving.{not_any}
use Rattle.admission_core.proofs.asking.ask_to_process.Goals as goal

pub returns-else-finish_first_on-clause-parts : goal.returns-else-finish_first_on-clause-parts
returns-else-finish_first_on-clause-parts c =
    let test = is_waiting_on c.args.table.now c.args.machine.0 in
    let parts = c.args.tally.now.parts.parts in
    let idle = sym c.finish_first_on.ensures.waits ∙ c.if-finish_first_on.false in
    rw idle (c.finish_first_on.ensures.parts ∙ finish_first-none test parts (not_any test parts idle))
