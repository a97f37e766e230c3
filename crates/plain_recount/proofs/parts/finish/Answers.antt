-- The first part that waits on a machine is done, if there is one.
use Rattle.std.proofs.Common.{sym, ◌∙◌}
use Rattle.cell_base.specs.Outcomes.{is_waiting_on}
use Rattle.plain_recount.proofs.Found.{finish_found, finish_none}
use Rattle.plain_recount.proofs.parts.finish.Goals as goal

pub returns-in-Some : goal.returns-in-Some
returns-in-Some c = λ cell machine is.
    sym (finish_found (is_waiting_on cell machine.0) c.args.parts.now c.in-Some.at _ (sym is ∙ c.in-Some.is))

pub returns-in_default : goal.returns-in_default
returns-in_default c = λ cell machine is.
    sym (finish_none (is_waiting_on cell machine.0) c.args.parts.now (sym is ∙ c.in_default.is))
