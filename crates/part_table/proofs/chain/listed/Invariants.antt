-- The parts of the entries so far that stay.
use Rattle.std.proofs.Common.{◌≡◌, take}
use Rattle.part_table.specs.Chains.{link_entries}
use Rattle.part_table.specs.Logs.{staying}
use Rattle.part_table.specs.Standings.{parts_of}
use Rattle.part_table.proofs.chain.listed.Given as goal

abbrev pub invariant-loop-link : goal.invariant-loop-link
invariant-loop-link l = l.parts ≡ parts_of (staying (link_entries (take l.link-index l.links)))
