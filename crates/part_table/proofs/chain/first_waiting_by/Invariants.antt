-- The first part that waits is among the entries that are left.
use Rattle.std.proofs.Common.{◌≡◌, drop, find}
use Rattle.cell_base.specs.Outcomes.{is_waiting_on}
use Rattle.part_table.specs.Chains.{link_entries}
use Rattle.part_table.specs.Logs.{staying}
use Rattle.part_table.specs.Standings.{parts_of}
use Rattle.part_table.proofs.chain.first_waiting_by.Given as goal

abbrev pub invariant-loop-link : goal.invariant-loop-link
invariant-loop-link l =
    find (is_waiting_on l.table l.on.0) (parts_of (staying (link_entries l.links)))
    ≡ find (is_waiting_on l.table l.on.0) (parts_of (staying (link_entries (drop l.link-index l.links))))
