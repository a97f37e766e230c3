-- The entries have the same parts, at the same places.
use Rattle.std.proofs.Common.{ap, sym, subst, ◌∙◌}
use Rattle.cell_base.specs.Policy.{HaveDistinctJobs}
use Rattle.part_table.specs.Standings.{parts_of}
use Rattle.part_table.proofs.Listing.{length_items}
use Rattle.part_table.proofs.Staying.{staying_all, parts_of_entries}
use Rattle.part_table.proofs.log.Log.reassign_slots.Goals as goal

pub reassign_slots-requires-clause-distinct : goal.reassign_slots-requires-clause-distinct
reassign_slots-requires-clause-distinct c =
    let stay = rw (← c.self.view_is) at c.requires.stay in
    let distinct = rw (← c.self.view_is) at c.requires.distinct in
    let entries = c.self.inside.chain.entries in
    subst HaveDistinctJobs (ap (λ items. parts_of items) (staying_all entries stay) ∙ sym (parts_of_entries entries)) distinct

pub returns-clause-items : goal.returns-clause-items
returns-clause-items c =
    let stay = rw (← c.self.view_is) at c.requires.stay in
    rw (← c.self.view_is)
    (staying_all c.reassign_slots.new.chain.entries c.reassign_slots.ensures.stay ∙ c.reassign_slots.ensures.items
    ∙ sym (staying_all c.self.inside.chain.entries stay))

pub returns-clause-length : goal.returns-clause-length
returns-clause-length c =
    rw (← c.self.view_is) (length_items c.self.inside.chain.entries c.reassign_slots.new.chain.entries c.reassign_slots.ensures.items)
