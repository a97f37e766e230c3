-- The entry is done, and the first place of its resource that waits goes on to the next one.
use Rattle.std.proofs.Common.{◌<◌, set, ap, refl, arith, ◌∙◌}
use Rattle.part_table.specs.declared.standing.Entry.{Entry}
use Rattle.part_table.specs.Chains.{OFF, told_key, link_entries}
use Rattle.part_table.specs.Logs.{done_entry}
use Rattle.part_table.proofs.Changing.{inside_links, lane_of, linked_still, told_still, chain_done, entry_same}
use Rattle.part_table.proofs.Seeking.{entry_set}
use Rattle.part_table.proofs.chain.Chain.finish.Goals as goal

pub index-end-requires : goal.index-end-requires
index-end-requires c =
    let links = c.self.inside.links.items in
    let inside = inside_links links c.args.at (rw (← c.self.view_is) at c.requires) in
    let lane = lane_of links c.self.inside.ends.items _ c.args.at c.index_mut-link.result.now c.self.invariant inside
    c.index_mut-link.ensures.value in
    rw c.entry-lane.ensures (omega (arith, lane, c.self.inside.ends.ok.0))

pub first_after-requires-clause-linked : goal.first_after-requires-clause-linked
first_after-requires-clause-linked c =
    let links = c.self.inside.links.items in
    let old = c.index_mut-link.result.now in
    let inside = inside_links links c.args.at (rw (← c.self.view_is) at c.requires) in
    rw (c.deref.ensures.value, c.finish.ensures)
    (linked_still links c.self.inside.ends.items _ c.args.at old c.self.invariant inside c.index_mut-link.ensures.value
    (done_entry old.entry) refl)

pub index_mut-requires : goal.index_mut-requires
index_mut-requires c =
    let links = c.self.inside.links.items in
    let inside = inside_links links c.args.at (rw (← c.self.view_is) at c.requires) in
    let lane = lane_of links c.self.inside.ends.items _ c.args.at c.index_mut-link.result.now c.self.invariant inside
    c.index_mut-link.ensures.value in
    rw c.entry-lane.ensures (omega (arith, lane, c.self.inside.ends.ok.0))

pub invariant_of-self : goal.invariant_of-self
invariant_of-self c =
    let links = c.self.inside.links.items in
    let ends = c.self.inside.ends.items in
    let old = c.index_mut-link.result.now in
    let end = c.index-end.result.now in
    let inside = inside_links links c.args.at (rw (← c.self.view_is) at c.requires) in
    let lane = lane_of links ends _ c.args.at old c.self.invariant inside c.index_mut-link.ensures.value in
    let below : told_key c.index_mut-link.result.now.entry < OFF = omega (arith, lane, c.self.invariant.chained.few) in
    let told = told_still links ends _ c.args.at old c.self.invariant inside c.index_mut-link.ensures.value (done_entry old.entry) refl in
    let waiting = rw (c.deref.ensures.value, c.finish.ensures) at (c.first_after.ensures (told_key old.entry) below) in
    rw (c.finish.ensures, c.entry-lane.ensures)
    (chain_done links ends _ c.args.at old c.self.invariant inside c.index_mut-link.ensures.value end
    (rw c.entry-lane.ensures at c.index-end.ensures)
    (record { first = end.first; waiting = c.first_after.result; last = end.last }) refl refl (waiting told))

pub returns-clause-entries : goal.returns-clause-entries
returns-clause-entries c entry is =
    let links = c.self.inside.links.items in
    let old = c.index_mut-link.result.now in
    let inside = inside_links links c.args.at (rw (← c.self.view_is) at c.requires) in
    let here = rw (← c.self.view_is) at is in
    rw (← c.self.view_is, c.finish.ensures)
    (entry_set links c.args.at old (done_entry old.entry) c.index_mut-link.ensures.value
    ∙ ap (λ (e : Entry). set (link_entries c.self.inside.links.items) c.args.at (done_entry e))
    (entry_same links c.self.inside.ends.items _ c.args.at old c.self.invariant inside c.index_mut-link.ensures.value entry here))
