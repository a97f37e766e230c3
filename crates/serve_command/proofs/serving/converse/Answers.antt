-- The head, and then round after round.
use Rattle.std.proofs.Common.{◌<◌, ℕ, [], ◌∷◌, Ok, length, ap, arith, inl, inr, refl, subst, sym, ◌∙◌}
use Rattle.std.proofs.lemmas.Result.{err_from_is_err_and}
use Rattle.input_lines.specs.Reading.{GivesPiece, LinesState}
use Rattle.lent_peers.specs.Beside.{IsBeside}
use Rattle.peers.specs.Meanings.{peer_gave, peer_took}
use Rattle.peers.specs.Reads.{IsRead}
use Rattle.cell_walks.specs.Statuses.{early_line}
use Rattle.cell_walks.specs.declared.early_end.EarlyEnd.TheVariants.{NotRead}
use Rattle.outside_io.specs.Causes.{Rose}
use Rattle.outside_io.specs.Puts.{TookAll, TookSome}
use Rattle.record_text.specs.Lines.{head_words, line_of}
use Rattle.serve_command.specs.Conversing.{IsConversing}
use Rattle.serve_command.proofs.Conversing.{begins, head_is, is_lost, none_is_ahead, not_begun}
use Rattle.serve_command.proofs.LoopLives.{begins_live}
use Rattle.serve_command.proofs.RoundByRound.{lost_is_live, piece_follows, put_before, read_is_live, round_answers, round_is_live, round_stops}
use Rattle.serve_command.proofs.serving.converse.Goals as goal

pub returns-in-Err-clause-converses : goal.returns-in-Err-clause-converses
returns-in-Err-clause-converses g c = λ cell_text opening behind.
    not_begun g.D.Disk.reads_as g.D.Disk.may_leave g.D.Disk.moment g.D.Disk.left_since g.D.Disk.faults cell_text opening
    c.args.server.now behind c.requires.ready c.requires.first (g.met.D.Disk.only_now c.args.server.now.live.disk)
    g.T.Peer.given g.T.Peer.has_ended g.T.Peer.read_faults c.args.peer.now c.print_beside.new.peer
    c.print_beside.ensures.beside.unread c.print_beside.ensures.beside.no_read
    g.T.Peer.taken g.T.Peer.was_put g.T.Peer.faults c.args.peer.now c.print_beside.new.peer c.head_line-head.result
    (c.head_line-head.ensures ∙ ap (λ (n : ℕ). line_of (head_words 0 n)) c.len.ensures)
    (omega (arith, c.live_law.ensures.room, c.requires.ready.room))
    (subst (TookSome (peer_took g.T.Peer c.args.peer.now c.print_beside.new.peer)) c.from_ref.ensures.value c.in-Err.ensures.part)
    c.in-Err.ensures.cause.failed

pub returns-in-Err-clause-lives : goal.returns-in-Err-clause-lives
returns-in-Err-clause-lives g c = λ start is.
    begins_live g.D.Disk g.T.Peer start c.args.server.now c.args.peer.now c.print_beside.new.peer c.head_line-head.result is
    (head_is g.D.Disk.reads_as g.D.Disk.may_leave g.D.Disk.moment g.D.Disk.left_since g.D.Disk.faults start.text start.opening
    c.args.server.now is.stands_after c.requires.ready c.requires.first (g.met.D.Disk.only_now c.args.server.now.live.disk)
    g.T.Peer.given g.T.Peer.has_ended g.T.Peer.read_faults c.args.peer.now c.print_beside.new.peer
    c.print_beside.ensures.beside.unread c.print_beside.ensures.beside.no_read
    g.T.Peer.taken g.T.Peer.was_put g.T.Peer.faults c.args.peer.now c.print_beside.new.peer c.head_line-head.result
    (c.head_line-head.ensures ∙ ap (λ (n : ℕ). line_of (head_words 0 n)) c.len.ensures)
    (omega (arith, c.live_law.ensures.room, c.requires.ready.room)))
    (omega (arith, c.live_law.ensures.room, c.requires.ready.room))
    (subst (λ (d : _). IsBeside g.D.Disk g.T.Peer d c.args.peer.now c.print_beside.new.peer (c.head_line-head.result ∷ [])) c.disk.ensures
    (subst (IsBeside g.D.Disk g.T.Peer c.disk.result.now c.args.peer.now c.print_beside.new.peer) c.from_ref.ensures.value
    c.print_beside.ensures.beside))

pub loop-round-init : goal.loop-round-init
loop-round-init g c = record {
  ready = c.requires.ready;
  handed = c.in_default.ensures.handed (inr (subst (λ (ls : _). 0 < length ls) (sym c.from_ref.ensures.value) (omega arith)));
  goes_on = λ cell_text opening behind. (
    [],
    subst (λ (ls : LinesState). IsConversing g.D.Disk.reads_as g.D.Disk.may_leave g.D.Disk.moment g.D.Disk.left_since g.D.Disk.faults
        (peer_gave g.T.Peer c.args.peer.now c.print_beside.new.peer)
        (peer_took g.T.Peer c.args.peer.now c.print_beside.new.peer) c.args.server.now.live.cell
        cell_text opening c.args.server.now.live.disk
        c.args.server.now ls [])
        (sym c.requires.fresh)
        (begins g.D.Disk.reads_as g.D.Disk.may_leave g.D.Disk.moment g.D.Disk.left_since g.D.Disk.faults cell_text opening
        c.args.server.now behind c.requires.ready c.requires.first (g.met.D.Disk.only_now c.args.server.now.live.disk)
        g.T.Peer.given g.T.Peer.has_ended g.T.Peer.read_faults c.args.peer.now c.print_beside.new.peer
        c.print_beside.ensures.beside.unread c.print_beside.ensures.beside.no_read
        g.T.Peer.taken g.T.Peer.was_put g.T.Peer.faults c.args.peer.now c.print_beside.new.peer c.head_line-head.result
        (c.head_line-head.ensures ∙ ap (λ (n : ℕ). line_of (head_words 0 n)) c.len.ensures)
        (omega (arith, c.live_law.ensures.room, c.requires.ready.room))
        (subst (TookAll (peer_took g.T.Peer c.args.peer.now c.print_beside.new.peer)) c.from_ref.ensures.value c.in_default.ensures.whole)
        c.in_default.ensures.cause.kept),
  );
  lives = λ start is.
      begins_live g.D.Disk g.T.Peer start c.args.server.now c.args.peer.now c.print_beside.new.peer c.head_line-head.result is
      (head_is g.D.Disk.reads_as g.D.Disk.may_leave g.D.Disk.moment g.D.Disk.left_since g.D.Disk.faults start.text start.opening
      c.args.server.now is.stands_after c.requires.ready c.requires.first (g.met.D.Disk.only_now c.args.server.now.live.disk)
      g.T.Peer.given g.T.Peer.has_ended g.T.Peer.read_faults c.args.peer.now c.print_beside.new.peer
      c.print_beside.ensures.beside.unread c.print_beside.ensures.beside.no_read
      g.T.Peer.taken g.T.Peer.was_put g.T.Peer.faults c.args.peer.now c.print_beside.new.peer c.head_line-head.result
      (c.head_line-head.ensures ∙ ap (λ (n : ℕ). line_of (head_words 0 n)) c.len.ensures)
      (omega (arith, c.live_law.ensures.room, c.requires.ready.room)))
      (omega (arith, c.live_law.ensures.room, c.requires.ready.room))
      (subst (λ (d : _). IsBeside g.D.Disk g.T.Peer d c.args.peer.now c.print_beside.new.peer (c.head_line-head.result ∷ [])) c.disk.ensures
      (subst (IsBeside g.D.Disk g.T.Peer c.disk.result.now c.args.peer.now c.print_beside.new.peer) c.from_ref.ensures.value
      c.print_beside.ensures.beside));
}

pub returns-in_err-round-clause-converses : goal.returns-in_err-round-clause-converses
returns-in_err-round-clause-converses g c = λ cell_text opening behind.
    let server = c.args.server.now in
    let so = c.loop-round.invariant.goes_on cell_text opening behind in
    let p = err_from_is_err_and c.from_residual.result c.from_residual.ensures.1 in
    rw (p.1, p.2)
    (round_stops g.D.Disk g.T.Peer server.live.cell cell_text opening server.live.disk c.args.peer.now c.loop-round.server
    c.loop-round.lines c.loop-round.peer so.0 so.1 c.round.new.peer c.round.new.self c.round.new.lines c.round.ensures.unread
    c.round.ensures.no_read c.in_err-round.field-0.0 c.in_err-round.ensures.round)

pub returns-in_err-round-clause-lives : goal.returns-in_err-round-clause-lives
returns-in_err-round-clause-lives g c = λ start is.
    let so = c.loop-round.invariant.goes_on start.text start.opening is.stands_after in
    round_is_live g.D.Disk g.T.Peer start c.args.server.now c.args.peer.now is c.loop-round.server c.loop-round.lines c.loop-round.peer so.0
    so.1 (c.loop-round.invariant.lives start is) c.round.new.self.live.disk c.round.new.peer c.round.ensures.lives

pub returns-in-Ok-eq0-clause-converses : goal.returns-in-Ok-eq0-clause-converses
returns-in-Ok-eq0-clause-converses g c = λ cell_text opening behind.
    let server = c.args.server.now in
    let so = c.loop-round.invariant.goes_on cell_text opening behind in
    let conv = round_answers g.D.Disk g.T.Peer server.live.cell cell_text opening server.live.disk c.args.peer.now c.loop-round.server
    c.loop-round.lines c.loop-round.peer so.0 so.1 c.round.new.peer c.round.new.self c.round.new.lines c.round.ensures.unread
    c.round.ensures.no_read c.in_ok-round.ensures.round c.in_ok-round.ensures.no_peer_fault c.in_ok-round.ensures.no_disk_fault in
    let read = subst (λ (d : _). IsRead g.D.Disk g.T.Peer d c.round.new.peer c.fill.new.peer) c.disk-then-is_spent.ensures
    c.fill.ensures.read in (
      c.fill.new.self,
      conv.0,
      piece_follows g.D.Disk g.T.Peer server.live.cell cell_text opening server.live.disk c.args.peer.now c.round.new.self
          c.round.new.lines c.round.new.peer conv.0 conv.1 c.fill.new.peer c.fill.new.self c.in-Ok-eq0.field-0 read c.in-Ok-eq0.ensures.goes_on
          c.in-Ok-eq0.ensures.cause.kept,
      none_is_ahead (g.T.Peer.given c.round.new.peer) (g.T.Peer.given c.fill.new.peer) c.round.new.lines c.fill.new.self
          (subst (GivesPiece (g.T.Peer.given c.round.new.peer) (g.T.Peer.given c.fill.new.peer) c.round.new.lines c.fill.new.self)
          c.in-Ok-eq0.field-0-test c.in-Ok-eq0.ensures.goes_on),
      c.in-Ok-eq0.ensures.end (ap Ok c.in-Ok-eq0.field-0-test),
    )

pub returns-in-Ok-eq0-clause-lives : goal.returns-in-Ok-eq0-clause-lives
returns-in-Ok-eq0-clause-lives g c = λ start is.
    let server = c.args.server.now in
    let so = c.loop-round.invariant.goes_on start.text start.opening is.stands_after in
    let conv = round_answers g.D.Disk g.T.Peer server.live.cell start.text start.opening server.live.disk c.args.peer.now c.loop-round.server
    c.loop-round.lines c.loop-round.peer so.0 so.1 c.round.new.peer c.round.new.self c.round.new.lines c.round.ensures.unread
    c.round.ensures.no_read c.in_ok-round.ensures.round c.in_ok-round.ensures.no_peer_fault c.in_ok-round.ensures.no_disk_fault in
    let read = subst (λ (d : _). IsRead g.D.Disk g.T.Peer d c.round.new.peer c.fill.new.peer) c.disk-then-is_spent.ensures
    c.fill.ensures.read in
    let lived = round_is_live g.D.Disk g.T.Peer start server c.args.peer.now is c.loop-round.server c.loop-round.lines c.loop-round.peer so.0
    so.1 (c.loop-round.invariant.lives start is) c.round.new.self.live.disk c.round.new.peer c.round.ensures.lives in
    read_is_live g.D.Disk g.T.Peer start server c.args.peer.now is c.round.new.self c.round.new.lines c.round.new.peer conv.0 conv.1 lived
    c.fill.new.peer read

pub returns-in-Err-fill-clause-converses : goal.returns-in-Err-fill-clause-converses
returns-in-Err-fill-clause-converses g c = λ cell_text opening behind.
    let server = c.args.server.now in
    let so = c.loop-round.invariant.goes_on cell_text opening behind in
    let conv = round_answers g.D.Disk g.T.Peer server.live.cell cell_text opening server.live.disk c.args.peer.now c.loop-round.server
    c.loop-round.lines c.loop-round.peer so.0 so.1 c.round.new.peer c.round.new.self c.round.new.lines c.round.ensures.unread
    c.round.ensures.no_read c.in_ok-round.ensures.round c.in_ok-round.ensures.no_peer_fault c.in_ok-round.ensures.no_disk_fault in
    let read = subst (λ (d : _). IsRead g.D.Disk g.T.Peer d c.round.new.peer c.fill.new.peer) c.disk-then-is_spent.ensures
    c.fill.ensures.read in
    is_lost g.D.Disk.reads_as g.D.Disk.may_leave g.D.Disk.moment g.D.Disk.left_since g.D.Disk.faults server.live.cell cell_text opening
    server.live.disk c.round.new.self c.round.new.lines conv.0 g.T.Peer.given g.T.Peer.has_ended g.T.Peer.read_faults c.args.peer.now
    c.round.new.peer c.finish_beside.new.peer g.T.Peer.taken g.T.Peer.was_put g.T.Peer.faults c.args.peer.now c.fill.new.peer
    c.finish_beside.new.peer
    (put_before g.D.Disk g.T.Peer server.live.cell cell_text opening server.live.disk c.args.peer.now c.round.new.self c.round.new.lines
    c.round.new.peer conv.0 conv.1 c.fill.new.peer read)
    (c.is_spent.ensures.0 c.if-is_spent.true) (c.finish_beside.ensures.beside.unread ∙ c.in-Err-fill.ensures.nothing.0)
    (subst (Rose (g.T.Peer.read_faults c.round.new.peer)) (sym c.finish_beside.ensures.beside.no_read) c.in-Err-fill.ensures.cause.failed)
    c.finish_beside.result c.finish_beside.ensures.delivered

pub returns-in-Err-fill-clause-lives : goal.returns-in-Err-fill-clause-lives
returns-in-Err-fill-clause-lives g c = λ start is.
    let server = c.args.server.now in
    let so = c.loop-round.invariant.goes_on start.text start.opening is.stands_after in
    let conv = round_answers g.D.Disk g.T.Peer server.live.cell start.text start.opening server.live.disk c.args.peer.now c.loop-round.server
    c.loop-round.lines c.loop-round.peer so.0 so.1 c.round.new.peer c.round.new.self c.round.new.lines c.round.ensures.unread
    c.round.ensures.no_read c.in_ok-round.ensures.round c.in_ok-round.ensures.no_peer_fault c.in_ok-round.ensures.no_disk_fault in
    let read = subst (λ (d : _). IsRead g.D.Disk g.T.Peer d c.round.new.peer c.fill.new.peer) c.disk-then-is_spent.ensures
    c.fill.ensures.read in
    let lived = round_is_live g.D.Disk g.T.Peer start server c.args.peer.now is c.loop-round.server c.loop-round.lines c.loop-round.peer so.0
    so.1 (c.loop-round.invariant.lives start is) c.round.new.self.live.disk c.round.new.peer c.round.ensures.lives in
    lost_is_live g.D.Disk g.T.Peer start server c.args.peer.now is c.round.new.self c.round.new.lines c.round.new.peer conv.0 conv.1 lived
    c.fill.new.peer c.finish_beside.new.peer (early_line NotRead ∷ []) (inr (inl refl)) read c.in-Err-fill.ensures.nothing.0
    (subst (λ (d : _). IsBeside g.D.Disk g.T.Peer d c.fill.new.peer c.finish_beside.new.peer (early_line NotRead ∷ []))
    c.disk-in-Err-fill.ensures c.finish_beside.ensures.beside)

pub loop-round-preserved-in-Ok : goal.loop-round-preserved-in-Ok
loop-round-preserved-in-Ok g c = record {
  ready = c.in_ok-round.ensures.ready;
  handed = c.fill.ensures.read.none_handed ∙ c.in_ok-round.ensures.handed c.loop-round.invariant.handed ∙ sym c.fill.ensures.read.same;
  goes_on = λ cell_text opening behind.
      let server = c.args.server.now in
      let so = c.loop-round.invariant.goes_on cell_text opening behind in
      let conv = round_answers g.D.Disk g.T.Peer server.live.cell cell_text opening server.live.disk c.args.peer.now c.loop-round.server
      c.loop-round.lines c.loop-round.peer so.0 so.1 c.round.new.peer c.round.new.self c.round.new.lines c.round.ensures.unread
      c.round.ensures.no_read c.in_ok-round.ensures.round c.in_ok-round.ensures.no_peer_fault c.in_ok-round.ensures.no_disk_fault in
      let read = subst (λ (d : _). IsRead g.D.Disk g.T.Peer d c.round.new.peer c.fill.new.peer) c.disk-then-is_spent.ensures
      c.fill.ensures.read in (
        conv.0,
        piece_follows g.D.Disk g.T.Peer server.live.cell cell_text opening server.live.disk c.args.peer.now c.round.new.self
            c.round.new.lines c.round.new.peer conv.0 conv.1 c.fill.new.peer c.fill.new.self c.in-Ok.field-0 read c.in-Ok.ensures.goes_on
            c.in-Ok.ensures.cause.kept,
      );
  lives = λ start is.
      let server = c.args.server.now in
      let so = c.loop-round.invariant.goes_on start.text start.opening is.stands_after in
      let conv = round_answers g.D.Disk g.T.Peer server.live.cell start.text start.opening server.live.disk c.args.peer.now c.loop-round.server
      c.loop-round.lines c.loop-round.peer so.0 so.1 c.round.new.peer c.round.new.self c.round.new.lines c.round.ensures.unread
      c.round.ensures.no_read c.in_ok-round.ensures.round c.in_ok-round.ensures.no_peer_fault c.in_ok-round.ensures.no_disk_fault in
      let read = subst (λ (d : _). IsRead g.D.Disk g.T.Peer d c.round.new.peer c.fill.new.peer) c.disk-then-is_spent.ensures
      c.fill.ensures.read in
      let lived = round_is_live g.D.Disk g.T.Peer start server c.args.peer.now is c.loop-round.server c.loop-round.lines c.loop-round.peer so.0
      so.1 (c.loop-round.invariant.lives start is) c.round.new.self.live.disk c.round.new.peer c.round.ensures.lives in
      read_is_live g.D.Disk g.T.Peer start server c.args.peer.now is c.round.new.self c.round.new.lines c.round.new.peer conv.0 conv.1 lived
      c.fill.new.peer read;
}

pub loop-round-preserved : goal.loop-round-preserved
loop-round-preserved g c = record {
  ready = c.in_ok-round.ensures.ready;
  handed = c.in_ok-round.ensures.handed c.loop-round.invariant.handed;
  goes_on = λ cell_text opening behind.
      let server = c.args.server.now in
      let so = c.loop-round.invariant.goes_on cell_text opening behind in
      round_answers g.D.Disk g.T.Peer server.live.cell cell_text opening server.live.disk c.args.peer.now c.loop-round.server
      c.loop-round.lines c.loop-round.peer so.0 so.1 c.round.new.peer c.round.new.self c.round.new.lines c.round.ensures.unread
      c.round.ensures.no_read c.in_ok-round.ensures.round c.in_ok-round.ensures.no_peer_fault c.in_ok-round.ensures.no_disk_fault;
  lives = λ start is.
      let so = c.loop-round.invariant.goes_on start.text start.opening is.stands_after in
      round_is_live g.D.Disk g.T.Peer start c.args.server.now c.args.peer.now is c.loop-round.server c.loop-round.lines c.loop-round.peer so.0
      so.1 (c.loop-round.invariant.lives start is) c.round.new.self.live.disk c.round.new.peer c.round.ensures.lives;
}
