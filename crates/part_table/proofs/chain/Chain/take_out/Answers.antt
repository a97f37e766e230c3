-- The entry is gone, and the first places of its resource go on to the next ones.
use Rattle.std.proofs.Common.{◌<◌, refl, arith}
use Rattle.part_table.specs.Chains.{OFF, told_key}
use Rattle.part_table.specs.Logs.{gone_entry}
use Rattle.part_table.proofs.Changing.{inside_links, lane_of, linked_still, told_still, chain_gone}
use Rattle.part_table.proofs.Seeking.{entry_read, entry_set}
use Rattle.part_table.proofs.chain.Chain.take_out.Goals as goal

pub index-end-requires : goal.index-end-requires
index-end-requires c =
    let links = c.self.inside.links.items in
    let inside = inside_links links c.args.at (rw (← c.self.view_is) at c.requires) in
    let lane = lane_of links c.self.inside.ends.items _ c.args.at c.index_mut-link.result.now c.self.invariant inside
    c.index_mut-link.ensures.value in
    rw c.entry-entry.ensures (omega (arith, lane, c.self.inside.ends.ok.0))

pub first_after-requires-clause-linked : goal.first_after-requires-clause-linked
first_after-requires-clause-linked c =
    let links = c.self.inside.links.items in
    let old = c.index_mut-link.result.now in
    let inside = inside_links links c.args.at (rw (← c.self.view_is) at c.requires) in
    rw (c.deref.ensures.value, c.take_out.ensures)
    (linked_still links c.self.inside.ends.items _ c.args.at old c.self.invariant inside c.index_mut-link.ensures.value
    (gone_entry old.entry) refl)

pub first_after-requires-2-clause-linked : goal.first_after-requires-2-clause-linked
first_after-requires-2-clause-linked c =
    let links = c.self.inside.links.items in
    let old = c.index_mut-link.result.now in
    let inside = inside_links links c.args.at (rw (← c.self.view_is) at c.requires) in
    rw (c.deref-2.ensures.value, c.take_out.ensures)
    (linked_still links c.self.inside.ends.items _ c.args.at old c.self.invariant inside c.index_mut-link.ensures.value
    (gone_entry old.entry) refl)

pub index_mut-requires : goal.index_mut-requires
index_mut-requires c =
    let links = c.self.inside.links.items in
    let inside = inside_links links c.args.at (rw (← c.self.view_is) at c.requires) in
    let lane = lane_of links c.self.inside.ends.items _ c.args.at c.index_mut-link.result.now c.self.invariant inside
    c.index_mut-link.ensures.value in
    rw c.entry-entry.ensures (omega (arith, lane, c.self.inside.ends.ok.0))

pub invariant_of-self : goal.invariant_of-self
invariant_of-self c =
    let links = c.self.inside.links.items in
    let ends = c.self.inside.ends.items in
    let old = c.index_mut-link.result.now in
    let inside = inside_links links c.args.at (rw (← c.self.view_is) at c.requires) in
    let lane = lane_of links ends _ c.args.at old c.self.invariant inside c.index_mut-link.ensures.value in
    let below : told_key c.index_mut-link.result.now.entry < OFF = omega (arith, lane, c.self.invariant.chained.few) in
    let told = told_still links ends _ c.args.at old c.self.invariant inside c.index_mut-link.ensures.value (gone_entry old.entry) refl in
    let first = rw (c.deref.ensures.value, c.take_out.ensures) at (c.first_after.ensures (told_key old.entry) below) in
    let waiting = rw (c.deref-2.ensures.value, c.take_out.ensures) at (c.first_after-2.ensures (told_key old.entry) below) in
    rw (c.take_out.ensures, c.entry-entry.ensures)
    (chain_gone links ends _ c.args.at old c.self.invariant inside c.index_mut-link.ensures.value c.index-end.result.now
    (rw c.entry-entry.ensures at c.index-end.ensures)
    (record { first = c.first_after.result; waiting = c.first_after-2.result; last = c.index-end.result.now.last }) refl (first told)
    (waiting told))

pub returns-clause-entry : goal.returns-clause-entry
returns-clause-entry c =
    let links = c.self.inside.links.items in
    let inside = inside_links links c.args.at (rw (← c.self.view_is) at c.requires) in
    rw (← c.self.view_is, c.entry-entry.ensures)
    (entry_read links c.args.at c.index_mut-link.result.now inside c.index_mut-link.ensures.value)

pub returns-clause-entries : goal.returns-clause-entries
returns-clause-entries c =
    let old = c.index_mut-link.result.now in
    rw (← c.self.view_is, c.take_out.ensures, c.entry-entry.ensures)
    (entry_set c.self.inside.links.items c.args.at old (gone_entry old.entry) c.index_mut-link.ensures.value)
