-- The group is decided, written and answered, or the conversation stops.
use Rattle.std.proofs.Common.{ap, arith, inl, map, refl, subst, sym, ◌∙◌, ◌∷◌, []}
use Rattle.outside_io.specs.Causes.{Rose}
use Rattle.outside_io.specs.Puts.{TookAll, TookSome}
use Rattle.live_cell.specs.LiveState.{LiveState}
use Rattle.move_journal.specs.Disks.{Shows}
use Rattle.journal_format.specs.Journals.{StandsFor}
use Rattle.lent_peers.specs.Beside.{IsBeside}
use Rattle.peers.specs.Meanings.{peer_took}
use Rattle.cell_walks.specs.Outcomes.{printed}
use Rattle.cell_walks.specs.declared.status.Status.TheVariants.{JournalRefused}
use Rattle.serve_command.specs.Asks.{ask_of}
use Rattle.serve_command.specs.Lives.{talk_then}
use Rattle.serve_command.specs.Serve.{full_line}
use Rattle.serve_command.proofs.Delivering.{delivered_after}
use Rattle.serve_command.proofs.RoundLives.{answered_lives, filled_lives, halted_at}
use Rattle.serve_command.specs.declared.server.Server.{Server}
use Rattle.serve_command.proofs.Rounding.{cut_off, fills, goes_on, halts, is_ready}
use Rattle.serve_command.proofs.server.Server.round.Goals as goal

pub returns-in-Err-clause-round : goal.returns-in-Err-clause-round
returns-in-Err-clause-round g c = λ cell_text talk text given behind reads.
    let old = c.args.self.now in
    let mid = c.take_group-full.new.self in
    let sink = peer_took g.T.Peer c.args.peer.now c.put_halted.new.peer in
    let taken = c.take_group-full.ensures.taken talk text given behind.at reads in
    let stays = c.take_group-full.ensures.stays in
    let shows = subst (λ (d : _). Shows g.D.Disk.reads_as g.D.Disk.may_leave d (λ file. StandsFor file cell_text talk.granted)) (sym stays.disk)
    behind.disk in
    halts g.D.Disk.reads_as g.D.Disk.may_leave g.D.Disk.moment g.D.Disk.left_since g.D.Disk.faults sink cell_text talk text given old
    mid _ c.take_group-full.new.lines stays c.take_group-full.result taken
    (omega (arith, c.live_law.ensures.room, stays.room, c.requires.ready.room))
    c.commit.ensures.tells (c.commit.ensures.any_moment cell_text talk.granted shows) (c.commit.ensures.kept cell_text talk.granted shows)
    (subst (λ (d : _). Rose (g.D.Disk.faults d) (g.D.Disk.faults c.commit.new.self.disk)) stays.disk c.in-Err.ensures.device)
    c.put_halted.result c.commit.ensures.untouched (stays.runs ∙ c.requires.ready.runs)
    (ap (λ (l : LiveState _). l.is_halted) c.in-Err.ensures.halts) mid.first refl c.put_halted.ensures.delivered

pub returns-in-Err-print_beside-clause-round : goal.returns-in-Err-print_beside-clause-round
returns-in-Err-print_beside-clause-round g c = λ cell_text talk text given behind reads.
    let old = c.args.self.now in
    let mid = c.take_group-full.new.self in
    let sink = peer_took g.T.Peer c.args.peer.now c.print_beside.new.peer in
    let taken = c.take_group-full.ensures.taken talk text given behind.at reads in
    let stays = c.take_group-full.ensures.stays in
    let shows = subst (λ (d : _). Shows g.D.Disk.reads_as g.D.Disk.may_leave d (λ file. StandsFor file cell_text talk.granted)) (sym stays.disk)
    behind.disk in
    cut_off g.D.Disk.reads_as g.D.Disk.may_leave g.D.Disk.moment g.D.Disk.left_since g.D.Disk.faults sink cell_text talk text given old
    mid _ c.take_group-full.new.lines stays c.take_group-full.result taken
    (omega (arith, c.live_law.ensures.room, stays.room, c.requires.ready.room))
    c.commit.ensures.tells (c.commit.ensures.any_moment cell_text talk.granted shows) c.in_default.ensures.ok refl refl refl
    (c.in_default.ensures.stored cell_text talk.granted shows)
    (subst (TookSome sink) c.as_slice.ensures c.in-Err-print_beside.ensures.part) c.in-Err-print_beside.ensures.cause.failed

pub returns-then-full-clause-round : goal.returns-then-full-clause-round
returns-then-full-clause-round g c = λ cell_text talk text given behind reads.
    let old = c.args.self.now in
    let mid = c.take_group-full.new.self in
    let sink = peer_took g.T.Peer c.args.peer.now c.put_full.new.peer in
    let taken = c.take_group-full.ensures.taken talk text given behind.at reads in
    let stays = c.take_group-full.ensures.stays in
    let shows = subst (λ (d : _). Shows g.D.Disk.reads_as g.D.Disk.may_leave d (λ file. StandsFor file cell_text talk.granted)) (sym stays.disk)
    behind.disk in
    let replies = c.as_slice.ensures ∙ taken.1.replies in
    fills g.D.Disk.reads_as g.D.Disk.may_leave g.D.Disk.moment g.D.Disk.left_since g.D.Disk.faults sink cell_text talk text given old
    mid _ c.take_group-full.new.lines stays c.take_group-full.result taken
    (omega (arith, c.live_law.ensures.room, stays.room, c.requires.ready.room))
    c.commit.ensures.tells (c.commit.ensures.any_moment cell_text talk.granted shows) c.in_default.ensures.ok refl refl refl
    (c.in_default.ensures.stored cell_text talk.granted shows)
    c.if-full.true c.put_full.result
    (delivered_after g.T.Peer.taken g.T.Peer.was_put g.T.Peer.faults c.args.peer.now c.print_beside.new.peer c.put_full.new.peer _
    (subst (TookAll (peer_took g.T.Peer c.args.peer.now c.print_beside.new.peer)) replies
    c.in_default-print_beside.ensures.whole)
    c.in_default-print_beside.ensures.cause.kept c.put_full.result (printed JournalRefused (full_line ∷ [])) _ refl refl c.put_full.ensures.delivered)

pub returns-clause-round : goal.returns-clause-round
returns-clause-round g c = λ cell_text talk text given behind reads.
    let old = c.args.self.now in
    let mid = c.take_group-full.new.self in
    let sink = peer_took g.T.Peer c.args.peer.now c.print_beside.new.peer in
    let taken = c.take_group-full.ensures.taken talk text given behind.at reads in
    let stays = c.take_group-full.ensures.stays in
    let shows = subst (λ (d : _). Shows g.D.Disk.reads_as g.D.Disk.may_leave d (λ file. StandsFor file cell_text talk.granted)) (sym stays.disk)
    behind.disk in (
      taken.0,
      goes_on g.D.Disk.reads_as g.D.Disk.may_leave g.D.Disk.moment g.D.Disk.left_since g.D.Disk.faults sink cell_text talk text given
          old mid _ c.take_group-full.new.lines stays c.take_group-full.result taken
          (omega (arith, c.live_law.ensures.room, stays.room, c.requires.ready.room))
          c.commit.ensures.tells (c.commit.ensures.any_moment cell_text talk.granted shows) c.in_default.ensures.ok refl refl refl
          (c.in_default.ensures.stored cell_text talk.granted shows) c.if-full.false
          (subst (TookAll sink) c.as_slice.ensures c.in_default-print_beside.ensures.whole),
    )

pub returns-in-Err-clause-lives : goal.returns-in-Err-clause-lives
returns-in-Err-clause-lives g c = λ start text given served.
    let old = c.args.self.now in
    let mid = c.take_group-full.new.self in
    let talk = talk_then start (map (ask_of start.cell) given) in
    let grants = talk.granted in
    let taken = c.take_group-full.ensures.taken talk text given served.stands_after.at served.reads in
    let stays = c.take_group-full.ensures.stays in
    let shows = subst (λ (d : _). Shows g.D.Disk.reads_as g.D.Disk.may_leave d (λ file. StandsFor file start.text grants)) (sym stays.disk)
    served.stands_after.disk in
    halted_at g.D.Disk g.T.Peer start text given old mid c.args.lines.now c.take_group-full.new.lines c.args.peer.now served stays
    c.take_group-full.result taken
    (omega (arith, c.live_law.ensures.room, stays.room, c.requires.ready.room)) c.commit.new.self.disk c.commit.ensures.tells
    (c.commit.ensures.any_moment start.text grants shows)
    (c.commit.ensures.kept start.text grants shows) c.put_halted.new.peer c.commit.ensures.untouched
    (stays.runs ∙ c.requires.ready.runs) (ap (λ (l : LiveState _). l.is_halted) c.in-Err.ensures.halts) mid.first refl
    c.put_halted.ensures.beside

pub returns-in-Err-print_beside-clause-lives : goal.returns-in-Err-print_beside-clause-lives
returns-in-Err-print_beside-clause-lives g c = λ start text given served.
    let old = c.args.self.now in
    let mid = c.take_group-full.new.self in
    let talk = talk_then start (map (ask_of start.cell) given) in
    let grants = talk.granted in
    let taken = c.take_group-full.ensures.taken talk text given served.stands_after.at served.reads in
    let stays = c.take_group-full.ensures.stays in
    let shows = subst (λ (d : _). Shows g.D.Disk.reads_as g.D.Disk.may_leave d (λ file. StandsFor file start.text grants)) (sym stays.disk)
    served.stands_after.disk in
    answered_lives g.D.Disk g.T.Peer start text given old mid c.args.lines.now c.take_group-full.new.lines c.args.peer.now served stays
    c.take_group-full.result taken
    (omega (arith, c.live_law.ensures.room, stays.room, c.requires.ready.room)) c.commit.new.self.disk c.commit.ensures.tells
    (c.commit.ensures.any_moment start.text grants shows)
    (c.in_default.ensures.stored start.text grants shows) c.print_beside.new.peer
    (subst (λ (d : _). IsBeside g.D.Disk g.T.Peer d c.args.peer.now c.print_beside.new.peer mid.replies) c.disk.ensures
    (subst (IsBeside g.D.Disk g.T.Peer c.disk.result.now c.args.peer.now c.print_beside.new.peer) c.as_slice.ensures
    c.print_beside.ensures.beside))

pub returns-then-full-clause-lives : goal.returns-then-full-clause-lives
returns-then-full-clause-lives g c = λ start text given served.
    let old = c.args.self.now in
    let mid = c.take_group-full.new.self in
    let talk = talk_then start (map (ask_of start.cell) given) in
    let grants = talk.granted in
    let taken = c.take_group-full.ensures.taken talk text given served.stands_after.at served.reads in
    let stays = c.take_group-full.ensures.stays in
    let shows = subst (λ (d : _). Shows g.D.Disk.reads_as g.D.Disk.may_leave d (λ file. StandsFor file start.text grants)) (sym stays.disk)
    served.stands_after.disk in
    filled_lives g.D.Disk g.T.Peer start text given old mid c.args.lines.now c.take_group-full.new.lines c.args.peer.now served stays
    c.take_group-full.result taken
    (omega (arith, c.live_law.ensures.room, stays.room, c.requires.ready.room)) c.commit.new.self.disk c.commit.ensures.tells
    (c.commit.ensures.any_moment start.text grants shows)
    (c.in_default.ensures.stored start.text grants shows) c.print_beside.new.peer
    (subst (λ (d : _). IsBeside g.D.Disk g.T.Peer d c.args.peer.now c.print_beside.new.peer mid.replies) c.disk.ensures
    (subst (IsBeside g.D.Disk g.T.Peer c.disk.result.now c.args.peer.now c.print_beside.new.peer) c.as_slice.ensures
    c.print_beside.ensures.beside))
    c.put_full.new.peer
    (subst (TookAll (peer_took g.T.Peer c.args.peer.now c.print_beside.new.peer)) c.as_slice.ensures
    c.in_default-print_beside.ensures.whole)
    (subst (λ (d : _). IsBeside g.D.Disk g.T.Peer d c.print_beside.new.peer c.put_full.new.peer (full_line ∷ [])) c.disk-then-full.ensures
    c.put_full.ensures.beside)

pub returns-clause-lives : goal.returns-clause-lives
returns-clause-lives g c = λ start text given served.
    let old = c.args.self.now in
    let mid = c.take_group-full.new.self in
    let talk = talk_then start (map (ask_of start.cell) given) in
    let grants = talk.granted in
    let taken = c.take_group-full.ensures.taken talk text given served.stands_after.at served.reads in
    let stays = c.take_group-full.ensures.stays in
    let shows = subst (λ (d : _). Shows g.D.Disk.reads_as g.D.Disk.may_leave d (λ file. StandsFor file start.text grants)) (sym stays.disk)
    served.stands_after.disk in
    answered_lives g.D.Disk g.T.Peer start text given old mid c.args.lines.now c.take_group-full.new.lines c.args.peer.now served stays
    c.take_group-full.result taken
    (omega (arith, c.live_law.ensures.room, stays.room, c.requires.ready.room)) c.commit.new.self.disk c.commit.ensures.tells
    (c.commit.ensures.any_moment start.text grants shows)
    (c.in_default.ensures.stored start.text grants shows) c.print_beside.new.peer
    (subst (λ (d : _). IsBeside g.D.Disk g.T.Peer d c.args.peer.now c.print_beside.new.peer mid.replies) c.disk.ensures
    (subst (IsBeside g.D.Disk g.T.Peer c.disk.result.now c.args.peer.now c.print_beside.new.peer) c.as_slice.ensures
    c.print_beside.ensures.beside))

pub returns-clause-handed : goal.returns-clause-handed
returns-clause-handed g c = λ handed. c.in_default-print_beside.ensures.handed (inl handed)

pub returns-clause-ready : goal.returns-clause-ready
returns-clause-ready g c =
    let mid = c.take_group-full.new.self in
    let new : Server _ = record mid { live = c.commit.new.self; replies = c.clear.new.self; first = c.clear-2.new.self } in
    is_ready c.args.self.now mid new c.take_group-full.ensures.stays c.in_default.ensures.ok refl c.requires.ready
    c.take_group-full.ensures.waiters c.clear.ensures c.clear-2.ensures
