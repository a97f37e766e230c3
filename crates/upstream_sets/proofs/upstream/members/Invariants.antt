-- The list has the numbers of the masks so far that have the bit.
use Rattle.std.proofs.Common.{◌≡◌}
use Rattle.upstream_sets.specs.Members.{with_bit_before}
use Rattle.upstream_sets.proofs.upstream.members.Given as goal

abbrev pub invariant-loop-stage : goal.invariant-loop-stage
invariant-loop-stage l = l.list ≡ with_bit_before l.stage l.masks l.r.0
