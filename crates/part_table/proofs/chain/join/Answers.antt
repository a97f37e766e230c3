-- The ends of the entry's resource are those with one entry more.
use Rattle.std.proofs.Common.{◌≡◌, ◌<◌, true, Some, refl, subst, sym, ap, arith, ◌∙◌}
use Rattle.std.proofs.lemmas.List.{length-map}
use Rattle.part_table.specs.declared.link.Link.{Link}
use Rattle.part_table.specs.declared.standing.Entry.{Entry}
use Rattle.part_table.specs.Chains.{link_entries, nexts_of}
use Rattle.part_table.proofs.Chains.{chained_joined}
use Rattle.part_table.proofs.Jobs.{entry_at}
use Rattle.part_table.proofs.chain.join.Goals as goal

pub returns-clause-chained : goal.returns-clause-chained
returns-clause-chained c =
    let links = c.args.links.now.items in
    let inside = subst (λ l. c.args.at < l) (sym (length-map links (λ (link : Link). link.entry))) c.requires.inside in
    let long = subst (λ l. c.args.at < l) (sym (length-map links (λ (link : Link). link.next))) c.requires.inside in
    let found = entry_at (link_entries links) c.args.at inside in
    let is = c.requires.entry found.0 found.1 in
    let entry : Entry = record { item = c.args.item; stays = true; slot = found.0.slot } in
    let same : found.0 ≡ entry = λ i. record { item = is.0 i; stays = is.1 i; slot = found.0.slot } in
    rw (c.lead.ensures.entries, c.lead.ensures.next)
    (chained_joined (link_entries links) (nexts_of links) c.args.ends.now.items c.args.at entry c.index-end.result.now c.with.result
    c.requires.chained (found.1 ∙ ap Some same) refl c.requires.told c.index-end.ensures
    (omega (arith, c.requires.inside, c.requires.few)) long c.requires.nowhere c.with.ensures.last c.with.ensures.first
    c.with.ensures.waiting)
