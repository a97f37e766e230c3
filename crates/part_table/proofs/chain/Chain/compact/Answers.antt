-- What stays is what the filter of the definition keeps, and is linked anew.
use Rattle.std.proofs.Common.{◌≡◌, ◌<◌, List, length, filter, ap, rules, tests, ◌∙◌}
use Rattle.std.proofs.lemmas.Fn.{filter_same}
use Rattle.std.proofs.lemmas.List.Elements.{filter_passes, All-filter}
use Rattle.part_table.specs.declared.link.Link.{Link}
use Rattle.part_table.specs.declared.standing.Entry.{Entry}
use Rattle.part_table.specs.Chains.{link_entries, told_key}
use Rattle.part_table.proofs.Seeking.{entries_kept, all_told}
use Rattle.part_table.proofs.chain.Chain.compact.Goals as goal

pub join_all-requires-clause-stay : goal.join_all-requires-clause-stay
join_all-requires-clause-stay c =
    let kept : c.retain.new.self.items ≡ filter (λ (x : Link). x.entry.stays) c.self.inside.links.items =
    filter_same _ (λ (x : Link). x.entry.stays) _ (λ x b f k. search (rules, tests)) _ _ c.retain.ensures.filtered in
    rw (kept, entries_kept c.self.inside.links.items) (filter_passes (λ (x : Entry). x.stays) (link_entries c.self.inside.links.items))

pub join_all-requires-clause-told : goal.join_all-requires-clause-told
join_all-requires-clause-told c =
    let kept : c.retain.new.self.items ≡ filter (λ (x : Link). x.entry.stays) c.self.inside.links.items =
    filter_same _ (λ (x : Link). x.entry.stays) _ (λ x b f k. search (rules, tests)) _ _ c.retain.ensures.filtered in
    rw (kept, entries_kept c.self.inside.links.items, c.forget.ensures.resources)
    (All-filter (λ (x : Entry). x.stays) (λ (x : Entry). told_key x < length c.self.inside.ends.items)
    (link_entries c.self.inside.links.items) (all_told c.self.inside.links.items c.self.inside.ends.items _ c.self.invariant))

pub returns-clause-entries : goal.returns-clause-entries
returns-clause-entries c =
    let kept : c.retain.new.self.items ≡ filter (λ (x : Link). x.entry.stays) c.self.inside.links.items =
    filter_same _ (λ (x : Link). x.entry.stays) _ (λ x b f k. search (rules, tests)) _ _ c.retain.ensures.filtered in
    rw (← c.self.view_is)
    (c.join_all.ensures.entries ∙ ap (λ (xs : List Link). link_entries xs) kept ∙ entries_kept c.self.inside.links.items)
