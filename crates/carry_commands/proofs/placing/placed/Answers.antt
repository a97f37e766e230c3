-- The part may stand there.
use Rattle.std.proofs.Common.{not, ap, ◌∙◌}
use Rattle.carry_commands.proofs.placing.placed.Goals as goal

pub returns-then-part-clause-placing : goal.returns-then-part-clause-placing
returns-then-part-clause-placing c = ((c.requires, λ idle. c.if-part.true), c.job_number.ensures.small)

pub returns-else-part-clause-placing : goal.returns-else-part-clause-placing
returns-else-part-clause-placing c = ((c.requires, λ idle. ap not (c.works_at.ensures ∙ idle)), c.job_number.ensures.small)
