-- What was until the read is marked.
use Rattle.std.proofs.Common.{refl}
use Rattle.peers.proofs.Marking.{call_keeps, marked_there, read_moments}
use Rattle.peers.proofs.mem_peer.MemPeerPeer.next_piece.Goals as goal

pub returns-clause-moments : goal.returns-clause-moments
returns-clause-moments g c at =
    read_moments g.D.Disk.moment g.D.Disk.left_since c.args.disk.now c.args.self.now c.mark.new.self (record c.mark.new.self { source = c.next_piece.new.self })
    (marked_there g.D.Disk.moment g.D.Disk.left_since c.args.disk.now c.args.self.now (record c.args.self.now { marks = c.reserve.new.self })
    c.mark.new.self c.mark.ensures
    c.reserve.ensures.items refl refl refl refl refl refl)
    at refl refl refl g.D.Disk.may_leave (g.met.D.Disk.only_now c.args.disk.now) c.next_piece.result c.next_piece.new.out
    c.next_piece.ensures.gives c.next_piece.ensures.nothing

pub returns-clause-keeps : goal.returns-clause-keeps
returns-clause-keeps g c at =
    call_keeps g.D.Disk.moment g.D.Disk.left_since c.args.disk.now c.args.self.now c.mark.new.self
    (marked_there g.D.Disk.moment g.D.Disk.left_since c.args.disk.now c.args.self.now (record c.args.self.now { marks = c.reserve.new.self })
    c.mark.new.self c.mark.ensures
    c.reserve.ensures.items refl refl refl refl refl refl)
    at (record c.mark.new.self { source = c.next_piece.new.self }) refl
