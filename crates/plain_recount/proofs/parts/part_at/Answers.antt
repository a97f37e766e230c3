-- The part that is found is the first one of its job.
use Rattle.std.proofs.Common.{sym, ◌∙◌}
use Rattle.cell_base.specs.Policy.{is_of_job}
use Rattle.plain_recount.proofs.Found.{find_found, find_none}
use Rattle.plain_recount.proofs.parts.part_at.Goals as goal

pub returns-in-Some : goal.returns-in-Some
returns-in-Some c = λ job is. sym (find_found (is_of_job job) c.args.parts.now c.in-Some.at _ (sym is ∙ c.in-Some.is))

pub returns-in-None : goal.returns-in-None
returns-in-None c = λ job is. sym (find_none (is_of_job job) c.args.parts.now (sym is ∙ c.in-None.is))
