-- The last place leads to the new one, and the entries are the same.
use Rattle.std.proofs.lemmas.Bool.{lt-ltb}
use Rattle.part_table.proofs.Seeking.{same_entries, next_set}
use Rattle.part_table.proofs.chain.lead.Goals as goal

pub returns-then-last-at-clause-entries : goal.returns-then-last-at-clause-entries
returns-then-last-at-clause-entries c =
    rw c.lead_to.ensures
    (same_entries c.args.links.now.items c.args.last c.index_mut.result.now c.args.at c.index_mut.ensures.value)

pub returns-then-last-at-clause-next : goal.returns-then-last-at-clause-next
returns-then-last-at-clause-next c =
    rw (lt-ltb _ _ c.if-last-at.true, c.lead_to.ensures)
    (next_set c.args.links.now.items c.args.last c.index_mut.result.now c.args.at c.index_mut.ensures.value)
