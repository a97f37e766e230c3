-- The parts so far are copied, and the room is the same.
use Rattle.std.proofs.Common.{◌≡◌, take}
use Rattle.std.specs.Vec.{vec_capacity}
use Rattle.plain_recount.proofs.recount.copy.Given as goal

abbrev pub invariant-loop-part : goal.invariant-loop-part
invariant-loop-part l = (l.to.items ≡ take l.part-index l.from) × (vec_capacity l.to ≡ vec_capacity l.fn.to)
