-- The first place of the resource is known.
use Rattle.std.proofs.Common.{arith}
use Rattle.part_table.specs.declared.chain.Ends.{Ends}
use Rattle.part_table.specs.Chains.{standing_key}
use Rattle.part_table.proofs.Changing.{some_read, none_read}
use Rattle.part_table.proofs.chain.Chain.first_on.Goals as goal

pub returns-then-at-len-clause-first : goal.returns-then-at-len-clause-first
returns-then-at-len-clause-first c =
    rw (← c.self.view_is)
    (some_read c.self.inside.links.items c.self.inside.ends.items standing_key (λ (e : Ends). e.first) c.args.on.0
    c.index.result.now (rw (← c.self.view_is) at c.requires) c.index.ensures c.self.invariant.chained.firsts
    (omega (arith, c.if-at-len.true, c.self.inside.links.ok.0)))

pub returns-else-at-len-clause-first : goal.returns-else-at-len-clause-first
returns-else-at-len-clause-first c =
    rw (← c.self.view_is)
    (none_read c.self.inside.links.items c.self.inside.ends.items standing_key (λ (e : Ends). e.first) c.args.on.0
    c.index.result.now (rw (← c.self.view_is) at c.requires) c.index.ensures c.self.invariant.chained.firsts
    (omega (arith, c.if-at-len.false, c.self.inside.links.ok.0)))
