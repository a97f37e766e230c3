-- The first part so far.
use Rattle.std.proofs.Common.{take}
use Rattle.banker_check.proofs.NextPart.{AreFirst}
use Rattle.banker_check.proofs.planning.next_part.Given as goal

abbrev pub invariant-loop-part : goal.invariant-loop-part
invariant-loop-part l = AreFirst l.table (take l.part-index l.parts) l.first
