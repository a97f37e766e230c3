-- The input has ended: what comes last is put.
use Rattle.std.proofs.Common.{inr, subst, sym}
use Rattle.peers.specs.Meanings.{peer_gave, peer_took}
use Rattle.serve_command.specs.Conversing.{IsServedAfter, end_lines}
use Rattle.serve_command.specs.Lives.{LivesTo}
use Rattle.serve_command.proofs.Conversing.{ends_so, input_kept}
use Rattle.serve_command.proofs.LoopLives.{end_lines_are, has_room, last_lives, lives_then, served_to}
use Rattle.serve_command.proofs.serving.serve_live.Goals as goal

pub returns-in-Ok-clause-serves : goal.returns-in-Ok-clause-serves
returns-in-Ok-clause-serves g c = λ cell_text opening behind.
    let server = c.args.server in
    let now = c.converse.new.server in
    let input = peer_gave g.T.Peer c.args.peer.now c.put_last.new.peer in
    let sink = peer_took g.T.Peer c.args.peer.now c.put_last.new.peer in
    let so = c.in-Ok.ensures.converses cell_text opening behind in
    let kept = input_kept g.D.Disk.reads_as g.D.Disk.may_leave g.D.Disk.moment g.D.Disk.left_since g.D.Disk.faults server.live.cell cell_text opening server.live.disk now so.0 so.1
    (peer_took g.T.Peer c.args.peer.now c.converse.new.peer) g.T.Peer.given g.T.Peer.has_ended g.T.Peer.read_faults
    c.args.peer.now c.converse.new.peer c.put_last.new.peer so.2 c.put_last.ensures.beside.unread
    c.put_last.ensures.beside.no_read in
    subst (λ (d : _). IsServedAfter g.D.Disk.reads_as g.D.Disk.may_leave g.D.Disk.moment g.D.Disk.left_since g.D.Disk.faults input sink
    server.live.cell cell_text opening server.live.disk d c.put_last.result.status)
    (sym c.put_last.ensures.disk)
    (ends_so g.D.Disk.reads_as g.D.Disk.may_leave g.D.Disk.moment g.D.Disk.left_since g.D.Disk.faults input g.T.Peer.taken g.T.Peer.was_put g.T.Peer.faults c.args.peer.now c.converse.new.peer c.put_last.new.peer server.live.cell cell_text opening
    server.live.disk now so.0 so.1 kept so.3 (c.put_last.ensures.beside.ended so.4) c.live_law.ensures.fits
    c.live_law.ensures.admitted c.put_last.result.status c.put_last.ensures.delivered)

pub returns-in-Ok-clause-lives : goal.returns-in-Ok-clause-lives
returns-in-Ok-clause-lives g c = λ start is.
    let server = c.args.server in
    let now = c.converse.new.server in
    let so = c.in-Ok.ensures.converses start.text start.opening is.stands_after in
    subst (λ (d : _). LivesTo g.D.Disk g.T.Peer start server.live.disk c.args.peer.now d c.put_last.new.peer) (sym c.put_last.ensures.disk)
    (lives_then g.D.Disk g.T.Peer start server.live.disk now.live.disk now.live.disk
    c.args.peer.now c.converse.new.peer c.put_last.new.peer (c.in-Ok.ensures.lives start is) so.2.left.tells
    (λ clock. last_lives g.D.Disk g.T.Peer start now so.0 so.2.text so.1 c.converse.new.peer c.put_last.new.peer
    (served_to g.D.Disk g.T.Peer start server now c.args.peer.now c.converse.new.peer so.0 so.1 is so.2 clock)
    (has_room g.D.Disk g.T.Peer start server now so.0 so.1 c.args.peer.now is so.2)
    (end_lines now)
    (inr (inr (end_lines_are g.D.Disk g.T.Peer start now so.0 so.2.text so.1 c.converse.new.peer
    (served_to g.D.Disk g.T.Peer start server now c.args.peer.now c.converse.new.peer so.0 so.1 is so.2 clock))))
    c.put_last.ensures.beside))
