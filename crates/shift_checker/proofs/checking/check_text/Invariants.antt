-- The lines so far are judged.
use Rattle.std.proofs.Common.{length}
use Rattle.shift_checker.proofs.Judged.{AreJudged}
use Rattle.shift_checker.proofs.checking.check_text.Given as goal

abbrev pub invariant-loop-walk : goal.invariant-loop-walk
invariant-loop-walk l = AreJudged l.cell l.bytes l.left l.walk l.verdict

abbrev pub decreases-loop-walk : goal.decreases-loop-walk
decreases-loop-walk l = length l.left.bytes
