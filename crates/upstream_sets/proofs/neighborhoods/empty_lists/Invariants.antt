-- There are as many lists as turns, and none of them has a stage.
use Rattle.std.proofs.Common.{◌≡◌, [], replicate}
use Rattle.upstream_sets.proofs.neighborhoods.empty_lists.Given as goal

abbrev pub invariant-loop : goal.invariant-loop
invariant-loop l = l.lists.items ≡ replicate l.counter []
