-- The entry that is gone was the one at the place.
use Rattle.std.proofs.Common.{set, ap, sym, ◌∙◌}
use Rattle.std.proofs.lemmas.Option.{same_Some}
use Rattle.part_table.specs.declared.standing.Entry.{Entry}
use Rattle.part_table.specs.Logs.{gone_entry}
use Rattle.part_table.proofs.Logs.{places_gone}
use Rattle.part_table.proofs.log.Log.take_out.Goals as goal

pub invariant_of-self : goal.invariant_of-self
invariant_of-self c =
    rw (c.take_out.ensures.entries)
    (places_gone c.self.inside.chain.entries c.self.inside.slots c.self.invariant c.args.at c.take_out.result c.take_out.ensures.entry)

pub returns-clause-entries : goal.returns-clause-entries
returns-clause-entries c entry is =
    let here = rw (← c.self.view_is) at is in
    rw (← c.self.view_is)
    (c.take_out.ensures.entries
    ∙ ap (λ (e : Entry). set c.self.inside.chain.entries c.args.at (gone_entry e))
    (same_Some c.take_out.result entry (sym c.take_out.ensures.entry ∙ here)))
