-- What was until the put is marked.
use Rattle.std.proofs.Common.{refl}
use Rattle.peers.proofs.Marking.{call_keeps, marked_there, put_moments}
use Rattle.peers.proofs.mem_peer.MemPeerPeer.put.Goals as goal

pub returns-clause-moments : goal.returns-clause-moments
returns-clause-moments g c at =
    put_moments g.D.Disk.moment g.D.Disk.left_since c.args.disk.now c.args.self.now c.mark.new.self (record c.mark.new.self { sink = c.put.new.self })
    (marked_there g.D.Disk.moment g.D.Disk.left_since c.args.disk.now c.args.self.now (record c.args.self.now { marks = c.reserve.new.self })
    c.mark.new.self c.mark.ensures
    c.reserve.ensures.items refl refl refl refl refl refl)
    at refl refl refl g.D.Disk.may_leave (g.met.D.Disk.only_now c.args.disk.now) c.put.result c.args.piece.now c.put.ensures.whole
    c.put.ensures.nothing

pub returns-clause-keeps : goal.returns-clause-keeps
returns-clause-keeps g c at =
    call_keeps g.D.Disk.moment g.D.Disk.left_since c.args.disk.now c.args.self.now c.mark.new.self
    (marked_there g.D.Disk.moment g.D.Disk.left_since c.args.disk.now c.args.self.now (record c.args.self.now { marks = c.reserve.new.self })
    c.mark.new.self c.mark.ensures
    c.reserve.ensures.items refl refl refl refl refl refl)
    at (record c.mark.new.self { sink = c.put.new.self }) refl
