-- The copies are of the elements so far.
use Rattle.std.proofs.Common.{◌≡◌, take}
use Rattle.cell_base.proofs.copies.resources.Given as goal

abbrev pub invariant-loop-resource : goal.invariant-loop-resource
invariant-loop-resource l = l.copies ≡ take l.resource-index l.resources
