-- The others are what the filter of the definition keeps.
use Rattle.std.proofs.Common.{sym, ◌∙◌}
use Rattle.cell_base.specs.Policy.{is_of_job}
use Rattle.policy_laws.proofs.Granting.{without-absent}
use Rattle.plain_recount.proofs.Found.{any_none, without_found}
use Rattle.plain_recount.proofs.parts.take_out.Goals as goal

pub returns-in-Some-clause-items : goal.returns-in-Some-clause-items
returns-in-Some-clause-items c = λ job is.
    c.remove.ensures.items
    ∙ sym (without_found job c.args.parts.now.items c.in-Some.at c.remove.result c.requires.distinct (sym is ∙ c.in-Some.is))

pub returns-in_default-clause-items : goal.returns-in_default-clause-items
returns-in_default-clause-items c = λ job is.
    sym (without-absent c.args.parts.now.items job (any_none (is_of_job job) c.args.parts.now.items (sym is ∙ c.in_default.is)))
