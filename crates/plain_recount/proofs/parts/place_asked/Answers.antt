-- What is found stands among the parts.
use Rattle.cell_base.specs.Policy.{is_of_job}
use Rattle.cell_base.specs.Outcomes.{is_waiting_on}
use Rattle.plain_recount.proofs.Found.{found_within}
use Rattle.plain_recount.proofs.parts.place_asked.Goals as goal

pub returns-in-Load-clause-within : goal.returns-in-Load-clause-within
returns-in-Load-clause-within c =
    found_within (is_of_job c.in-Load.job) c.args.parts.now c.place_of.result c.place_of.ensures

pub returns-in-Process-clause-within : goal.returns-in-Process-clause-within
returns-in-Process-clause-within c =
    let waiting = is_waiting_on c.args.cell.now c.in-Process.machine.0 in
    found_within waiting c.args.parts.now c.first_waiting_on.result c.first_waiting_on.ensures
