-- Nothing was added yet.
use Rattle.std.proofs.Common.{◌∙◌}
use Rattle.standby_link.proofs.Keeping.{kept_at_first, opens}
use Rattle.standby_link.proofs.follower.Follower.open.Goals as goal

pub invariant_of-result : goal.invariant_of-result
invariant_of-result g c =
    opens c.args.durable c.in-Ok.grants c.args.room c.durable_law.ensures.kept c.requires.fresh
    (c.in-Ok.ensures.items ∙ c.opening.ensures) c.in-Ok.ensures.room c.requires.room

pub returns-in-Ok-clause-none_added : goal.returns-in-Ok-clause-none_added
returns-in-Ok-clause-none_added g c = kept_at_first c.args.durable c.durable_law.ensures.kept c.requires.fresh
