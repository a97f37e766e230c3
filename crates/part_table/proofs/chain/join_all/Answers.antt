-- Each entry is linked after those before it.
use Rattle.std.proofs.Common.{◌≡◌, ℕ, ◌<◌, true, List, Some, length, slice_get, subst, sym, refl, ap, arith, ◌∙◌, get_or-set_same}
use Rattle.std.proofs.lemmas.List.{length-map}
use Rattle.std.proofs.lemmas.Option.{same_Some}
use Rattle.part_table.specs.declared.link.Link.{Link}
use Rattle.part_table.specs.declared.chain.TheConstants.{NOWHERE}
use Rattle.part_table.specs.declared.standing.Entry.{Entry}
use Rattle.part_table.specs.Chains.{IsChained, link_entries, nexts_of, told_key}
use Rattle.part_table.proofs.Chains.{chained_none}
use Rattle.part_table.proofs.Seeking.{same_entries, next_set, chained_apart, all_at, entry_read}
use Rattle.part_table.proofs.chain.join_all.Goals as goal

-- as many links as there were
same_length : (links first : List Link) → link_entries links ≡ link_entries first → length links ≡ length first
same_length links first same =
    sym (length-map links (λ (link : Link). link.entry)) ∙ ap (λ (xs : List Entry). length xs) same
    ∙ length-map first (λ (link : Link). link.entry)

inside_so : (links first : List Link) (at : ℕ) → link_entries links ≡ link_entries first → at < length first → at < length links
inside_so links first at same inside = subst (λ l. at < l) (sym (same_length links first same)) inside

pub loop-at-init : goal.loop-at-init
loop-at-init c = record {
  entries = refl;
  chained = chained_none (link_entries c.args.links.now.items) (nexts_of c.args.links.now.items) c.args.ends.now.items c.requires.resources
      c.requires.none;
  room = refl;
  resources = refl;
}

pub join-requires-clause-chained : goal.join-requires-clause-chained
join-requires-clause-chained c =
    let links = c.loop-at.links.items in
    let old = c.index_mut-link.result.now in
    rw c.lead_to.ensures
    (chained_apart links c.loop-at.at old NOWHERE c.index_mut-link.ensures.value c.loop-at.ends.items c.loop-at.invariant.chained)

pub join-requires-clause-nowhere : goal.join-requires-clause-nowhere
join-requires-clause-nowhere c =
    let links = c.loop-at.links.items in
    let inside = subst (λ l. c.loop-at.at < l) (sym (length-map links (λ (link : Link). link.next)))
    (inside_so c.loop-at.links.items c.args.links.now.items c.loop-at.at c.loop-at.invariant.entries
    (omega (arith, c.loop-at-test.true, c.len-at-end.ensures, c.args.links.now.ok.0))) in
    rw (c.lead_to.ensures, next_set links c.loop-at.at c.index_mut-link.result.now NOWHERE c.index_mut-link.ensures.value)
    (get_or-set_same (nexts_of links) c.loop-at.at NOWHERE 0 inside)

pub join-requires-clause-entry : goal.join-requires-clause-entry
join-requires-clause-entry c entry is =
    let links = c.loop-at.links.items in
    let old = c.index_mut-link.result.now in
    let same = same_entries links c.loop-at.at old NOWHERE c.index_mut-link.ensures.value in
    let inside = inside_so c.loop-at.links.items c.args.links.now.items c.loop-at.at c.loop-at.invariant.entries
    (omega (arith, c.loop-at-test.true, c.len-at-end.ensures, c.args.links.now.ok.0)) in
    let read = entry_read links c.loop-at.at old inside c.index_mut-link.ensures.value in
    let there : slice_get (link_entries c.loop-at.links.items) c.loop-at.at ≡ Some entry =
    ap (λ (xs : List Entry). slice_get xs c.loop-at.at) (sym same) ∙ rw c.lead_to.ensures at is in
    let first : slice_get (link_entries c.args.links.now.items) c.loop-at.at ≡ Some entry =
    ap (λ (xs : List Entry). slice_get xs c.loop-at.at) (sym c.loop-at.invariant.entries) ∙ there in (
      rw (c.entry.ensures, c.lead_to.ensures) (ap (λ (e : Entry). e.item) (same_Some entry old.entry (sym there ∙ read))),
      all_at (λ (entry : Entry). entry.stays ≡ true) (link_entries c.args.links.now.items) c.loop-at.at entry c.requires.stay first,
    )

pub join-requires-clause-told : goal.join-requires-clause-told
join-requires-clause-told c =
    let links = c.loop-at.links.items in
    let old = c.index_mut-link.result.now in
    let inside = inside_so c.loop-at.links.items c.args.links.now.items c.loop-at.at c.loop-at.invariant.entries
    (omega (arith, c.loop-at-test.true, c.len-at-end.ensures, c.args.links.now.ok.0)) in
    let read = entry_read links c.loop-at.at old inside c.index_mut-link.ensures.value in
    let first : slice_get (link_entries c.args.links.now.items) c.loop-at.at ≡ Some c.index_mut-link.result.now.entry =
    ap (λ (xs : List Entry). slice_get xs c.loop-at.at) (sym c.loop-at.invariant.entries) ∙ read in
    rw (c.entry.ensures, c.lead_to.ensures)
    (subst (λ l. c.index_mut-link.result.now.entry.item.on.0 < l) (sym c.loop-at.invariant.resources)
    (all_at (λ (entry : Entry). told_key entry < length c.args.ends.now.items) (link_entries c.args.links.now.items) c.loop-at.at
    old.entry c.requires.told first))

pub loop-at-preserved : goal.loop-at-preserved
loop-at-preserved c = record {
  entries = c.join.ensures.entries
      ∙ rw c.lead_to.ensures
      (same_entries c.loop-at.links.items c.loop-at.at c.index_mut-link.result.now NOWHERE c.index_mut-link.ensures.value
      ∙ c.loop-at.invariant.entries);
  chained = c.join.ensures.chained;
  room = c.join.ensures.room ∙ c.loop-at.invariant.room;
  resources = c.join.ensures.resources ∙ c.loop-at.invariant.resources;
}

pub returns-clause-chained : goal.returns-clause-chained
returns-clause-chained c =
    let long = same_length c.loop-at.links.items c.args.links.now.items c.loop-at.invariant.entries in
    let end : c.loop-at.at ≡ length c.loop-at.links.items =
    omega (arith, c.loop-at-test.false, c.loop-at.auto.at-end, c.len-at-end.ensures, c.args.links.now.ok.0, long) in
    subst (IsChained (link_entries c.loop-at.links.items) (nexts_of c.loop-at.links.items) c.loop-at.ends.items) end
    c.loop-at.invariant.chained
