-- The present place is on the way of each resource of which the first one was.
use Rattle.std.proofs.Common.{ℕ, ◌<◌, ◌-◌, length, map}
use Rattle.part_table.specs.Chains.{OFF, IsOnWay, link_entries, told_key, key_of}
use Rattle.part_table.proofs.chain.seek.Given as goal

abbrev pub invariant-loop-at : goal.invariant-loop-at
invariant-loop-at l = (r : ℕ) → r < OFF
    → IsOnWay (map (key_of l.waiting) (link_entries l.links)) (map told_key (link_entries l.links)) (length l.links) r l.from
    → IsOnWay (map (key_of l.waiting) (link_entries l.links)) (map told_key (link_entries l.links)) (length l.links) r l.at

abbrev pub decreases-loop-at : goal.decreases-loop-at
decreases-loop-at l = length l.links - l.at
