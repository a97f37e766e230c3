-- The progress is that after the entries so far.
use Rattle.std.proofs.Common.{take}
use Rattle.board_rounds.specs.Underway.{Stands}
use Rattle.board_rounds.proofs.progress.go_on.Given as goal

abbrev pub invariant-loop-i : goal.invariant-loop-i
invariant-loop-i l = Stands l.progress (take l.i l.history)
