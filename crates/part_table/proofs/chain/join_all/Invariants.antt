-- The entries so far are linked, and all of them are the same.
use Rattle.std.proofs.Common.{◌≡◌, length, vec_capacity}
use Rattle.part_table.specs.Chains.{IsChained, link_entries, nexts_of}
use Rattle.part_table.proofs.chain.join_all.Given as goal

abbrev pub invariant-loop-at : goal.invariant-loop-at
invariant-loop-at l = record {
  entries : link_entries l.links.items ≡ link_entries l.initial.links.items;
  chained : IsChained (link_entries l.links.items) (nexts_of l.links.items) l.ends.items l.at;
  room : vec_capacity l.links ≡ vec_capacity l.initial.links;
  resources : length l.ends.items ≡ length l.initial.ends.items;
}
