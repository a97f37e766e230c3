-- The conversation goes on.
use Rattle.std.proofs.Common.{◌≡◌, ℕ, List}
use Rattle.cell_base.specs.declared.shifts.Grant.{Grant}
use Rattle.peers.specs.Meanings.{peer_gave, peer_took}
use Rattle.serve_command.specs.Conversing.{IsConversing}
use Rattle.serve_command.specs.Lives.{LivesFrom}
use Rattle.serve_command.specs.Rounds.{StandsAfter, HasNoGroup}
use Rattle.serve_command.specs.Talks.{opened}
use Rattle.serve_command.proofs.serving.converse.Given as goal

abbrev pub invariant-loop-round : goal.invariant-loop-round
invariant-loop-round g l = record {
  ready : HasNoGroup l.server;
  handed : g.T.Peer.handed_on l.peer ≡ g.T.Peer.taken l.peer;
  goes_on : (cell_text : List ℕ) (opening : List Grant)
      → StandsAfter g.D.Disk.reads_as g.D.Disk.may_leave cell_text (opened opening) l.fn.server
      → (given : List (List ℕ)) × IsConversing g.D.Disk.reads_as g.D.Disk.may_leave g.D.Disk.moment g.D.Disk.left_since g.D.Disk.faults
      (peer_gave g.T.Peer l.fn.peer l.peer) (peer_took g.T.Peer l.fn.peer l.peer)
      l.fn.server.live.cell cell_text opening l.fn.server.live.disk l.server l.lines given;
  lives : LivesFrom g.D.Disk g.T.Peer l.fn.server l.fn.peer l.server.live.disk l.peer;
}
