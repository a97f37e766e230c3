-- The copies are of the elements so far.
use Rattle.std.proofs.Common.{◌≡◌, take}
use Rattle.cell_base.proofs.copies.next.Given as goal

abbrev pub invariant-loop-places : goal.invariant-loop-places
invariant-loop-places l = l.copies ≡ take l.places-index l.next
