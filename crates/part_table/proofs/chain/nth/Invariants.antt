-- The part is as far among the entries that are left.
use Rattle.std.proofs.Common.{◌≡◌, slice_get, drop}
use Rattle.part_table.specs.Chains.{link_entries}
use Rattle.part_table.specs.Logs.{staying}
use Rattle.part_table.proofs.chain.nth.Given as goal

abbrev pub invariant-loop-link : goal.invariant-loop-link
invariant-loop-link l =
    slice_get (staying (link_entries l.links)) l.i ≡ slice_get (staying (link_entries (drop l.link-index l.links))) l.left
