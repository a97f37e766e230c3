-- The lines of the first of them are kept.
use Rattle.std.proofs.Common.{◌≡◌, ◌++◌, take}
use Rattle.serve_command.specs.Answers.{still_lines}
use Rattle.serve_command.proofs.server.Server.keep_still.Given as goal

abbrev pub invariant-loop-i : goal.invariant-loop-i
invariant-loop-i g l = l.self ≡ record l.fn.self {
  replies = l.fn.self.replies ++ still_lines l.fn.self.live.cell l.fn.self.live.parts (take l.i l.fn.self.queue.waiters);
}
