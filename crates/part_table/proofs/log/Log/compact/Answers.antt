-- What stays is what the filter of the definition keeps.
use Rattle.std.proofs.Common.{List, slice_get, filter, ap, sym, subst, ◌∙◌}
use Rattle.std.proofs.lemmas.List.Elements.{filter_passes}
use Rattle.cell_base.specs.Policy.{HaveDistinctJobs}
use Rattle.part_table.specs.declared.standing.Entry.{Entry}
use Rattle.part_table.proofs.Places.{get_in_filter}
use Rattle.part_table.proofs.Staying.{parts_of_entries}
use Rattle.part_table.proofs.log.Log.compact.Goals as goal

pub place_again-requires-clause-stay : goal.place_again-requires-clause-stay
place_again-requires-clause-stay c =
    rw c.compact.ensures.entries (filter_passes (λ (x : Entry). x.stays) c.self.inside.chain.entries)

pub place_again-requires-clause-distinct : goal.place_again-requires-clause-distinct
place_again-requires-clause-distinct c =
    let distinct = rw (← c.self.view_is) at c.requires in
    rw c.compact.ensures.entries
    (subst HaveDistinctJobs (sym (parts_of_entries (filter (λ (x : Entry). x.stays) c.self.inside.chain.entries))) distinct)

pub place_again-requires-clause-slotted : goal.place_again-requires-clause-slotted
place_again-requires-clause-slotted c k entry e stays =
    let there = get_in_filter (λ (x : Entry). x.stays) c.self.inside.chain.entries k entry
    (ap (λ (xs : List Entry). slice_get xs k) (sym c.compact.ensures.entries) ∙ e) in
    c.self.invariant.slotted there.0 entry there.1 stays
