-- The first of the entries behind it.
use Rattle.std.proofs.Common.{◌≡◌, ◌+◌, ◌-◌, List, drop, length, slice_get, take, ap, subst, sym, ◌∙◌}
use Rattle.std.proofs.lemmas.List.{drop-map, take_rest}
use Rattle.part_table.specs.Chains.{Chained, link_entries}
use Rattle.part_table.specs.Logs.{staying}
use Rattle.part_table.specs.declared.link.Link.{Link}
use Rattle.part_table.specs.declared.standing.Entry.{Entry}
use Rattle.part_table.proofs.chain.Chain.after.Goals as goal

pub returns : goal.returns
returns c =
    let i = c.self.inside in
    let at = c.args.at in
    let rest : take (length c.deref.result.now - (at + 1)) (drop (at + 1) c.deref.result.now) ≡ drop (at + 1) i.links.items =
    take_rest c.deref.result.now (at + 1) ∙ ap (λ (links : List Link). drop (at + 1) links) c.deref.ensures.value in
    subst (λ (chain : Chained). c.nth.result ≡ slice_get (staying (drop (at + 1) chain.entries)) 0) c.self.view_is
    (c.nth.ensures ∙ ap (λ (links : List Link). slice_get (staying (link_entries links)) 0) rest
    ∙ ap (λ (entries : List Entry). slice_get (staying entries) 0) (sym (drop-map (λ (link : Link). link.entry) (at + 1) i.links.items)))
