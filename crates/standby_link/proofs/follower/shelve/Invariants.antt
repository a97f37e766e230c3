-- The first grants are on the shelf, and there is room for the rest and the others.
use Rattle.std.proofs.Common.{◌≡◌, ◌+◌, ◌≤◌, length, take}
use Rattle.standby_link.proofs.follower.shelve.Given as goal

abbrev pub invariant-loop-grant : goal.invariant-loop-grant
invariant-loop-grant l = record {
  items : l.shelf.items ≡ take l.grant-index l.opening;
  spare : l.room + length l.opening ≤ l.grant-index + l.shelf.spare;
}
