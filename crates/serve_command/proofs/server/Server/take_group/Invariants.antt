-- So many lines were answered.
use Rattle.std.proofs.Common.{◌≡◌, ◌≤◌, ◌+◌, ℕ, List, length}
use Rattle.input_lines.specs.Reading.{AreLinesSoFar}
use Rattle.serve_command.specs.Rounds.{KeepsWaiters, StandsAt, Stays}
use Rattle.serve_command.specs.Talks.{Talk}
use Rattle.serve_command.proofs.Taking.{TakenSo}
use Rattle.serve_command.proofs.server.Server.take_group.Given as goal

abbrev pub invariant-loop-i : goal.invariant-loop-i
invariant-loop-i g l = record {
  goes_on : (talk : Talk) (text : List ℕ) (given : List (List ℕ)) → StandsAt talk l.initial.self → AreLinesSoFar text given l.initial.lines
      → TakenSo l.initial.self.live.cell talk l.initial.self.asked text given l.self l.lines l._i;
  stays : Stays l.initial.self l.self;
  waiters : KeepsWaiters l.self;
  ahead : length l.lines.ahead + l._i ≤ length l.initial.lines.ahead;
  begins : l._i ≡ 0 → l.self ≡ l.initial.self;
  pending : length l.self.live.pending ≤ length l.self.replies;
}
