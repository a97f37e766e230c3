-- The entry keeps its part and its link.
use Rattle.std.proofs.Common.{ap, set, ◌∙◌}
use Rattle.part_table.specs.declared.standing.Entry.{Entry}
use Rattle.part_table.specs.Chains.{link_entries}
use Rattle.part_table.specs.Logs.{with_slot}
use Rattle.part_table.proofs.Changing.{inside_links, chain_with_slot, entry_same}
use Rattle.part_table.proofs.Seeking.{entry_set}
use Rattle.part_table.proofs.chain.Chain.set_slot.Goals as goal

pub invariant_of-self : goal.invariant_of-self
invariant_of-self c =
    let links = c.self.inside.links.items in
    let inside = inside_links links c.args.at (rw (← c.self.view_is) at c.requires) in
    rw c.set_slot.ensures
    (chain_with_slot links c.self.inside.ends.items _ c.args.at c.index_mut.result.now c.self.invariant inside c.index_mut.ensures.value
    c.args.slot)

pub returns-clause-entries : goal.returns-clause-entries
returns-clause-entries c entry is =
    let links = c.self.inside.links.items in
    let old = c.index_mut.result.now in
    let inside = inside_links links c.args.at (rw (← c.self.view_is) at c.requires) in
    let here = rw (← c.self.view_is) at is in
    rw (← c.self.view_is, c.set_slot.ensures)
    (entry_set links c.args.at old (with_slot old.entry c.args.slot) c.index_mut.ensures.value
    ∙ ap (λ (e : Entry). set (link_entries c.self.inside.links.items) c.args.at (with_slot e c.args.slot))
    (entry_same links c.self.inside.ends.items _ c.args.at old c.self.invariant inside c.index_mut.ensures.value entry here))
