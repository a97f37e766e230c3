-- The journal is opened and served, or the command ends.
use Rattle.std.specs.Prelude.{IfSome, Ok}
use Rattle.std.proofs.Common.{◌≡◌, All, List, ℕ, ap, arith, length, subst, sym, ◌∙◌}
use Rattle.outside_io.specs.Telling.{told, where_told}
use Rattle.cell_base.specs.declared.cells.Cell.{Cell}
use Rattle.cell_base.specs.declared.shifts.Grant.{Grant}
use Rattle.cell_base.specs.Fits.{RequestFits}
use Rattle.cell_base.specs.Histories.{replay}
use Rattle.shift_recovery.specs.Opening.{IsRefusalOf}
use Rattle.durable_cell.specs.Openings.{IsHandedBack}
use Rattle.journal_format.specs.Replayed.{opened_as}
use Rattle.live_cell.specs.LiveState.{LiveState}
use Rattle.live_cell.specs.Openings.{IsOpened}
use Rattle.cell_walks.specs.Allowed.{IsNotOpened, NotOpened}
use Rattle.cell_walks.specs.DiskTold.{disk_told}
use Rattle.cell_texts.specs.Tests.{known}
use Rattle.journal_texts.specs.Tests.{to_add}
use Rattle.peers.specs.Meanings.{peer_gave, peer_took}
use Rattle.peers.specs.Runs.{RunsTo}
use Rattle.cell_walks.specs.Statuses.{early_line}
use Rattle.cell_walks.specs.declared.early_end.EarlyEnd.{EarlyEnd}
use Rattle.wait_queue.specs.Queues.{QueueState}
use Rattle.serve_command.specs.LivesThrough.{IsUnopened, Opened, Unopened}
use Rattle.serve_command.proofs.OpeningLives.{handed_back, lives_since}
use Rattle.serve_command.specs.Conversing.{IsServedOnJournal}
use Rattle.serve_command.specs.declared.command.TheConstants.{MAX_SERVED}
use Rattle.serve_command.proofs.Ending.{not_opened, opened_so}
use Rattle.serve_command.proofs.command.serve_journal.Goals as goal

pub returns-in-Ok-clause-served : goal.returns-in-Ok-clause-served
returns-in-Ok-clause-served g c =
    let disk = c.args.disk in
    let live = c.in-Ok.field-0.live in
    let opening : List Grant = c.in-Ok.ensures.opened.0 in
    let after = c.in-Ok.ensures.opened.1 in
    let opened = subst (λ (text : List ℕ). IsOpened g.D.Disk.reads_as g.D.Disk.may_leave g.D.Disk.moment g.D.Disk.left_since disk
    text opening
    live.disk) c.deref.ensures.value after.stands in
    let exact = subst (λ (text : List ℕ). IfSome (g.D.Disk.reads_as disk)
    (λ file. opened_as c.args.held.cell file text MAX_SERVED ≡ Ok opening)) c.deref.ensures.value after.exact in
    opened_so g.D.Disk.reads_as g.D.Disk.may_leave g.D.Disk.moment g.D.Disk.left_since g.D.Disk.faults
    (known c.args.held) disk c.serve_live.result.disk live opening
    (peer_gave g.T.Peer c.args.peer.now c.serve_live.new.peer) (peer_took g.T.Peer c.args.peer.now c.serve_live.new.peer)
    c.serve_live.result.status after.state after.due exact opened c.in-Ok.ensures.cause
    (c.serve_live.ensures.serves c.args.held.text.items opening (record {
      at = record {
        fit = subst (λ (cell : Cell). All (λ (grant : Grant). RequestFits cell grant.request) opening)
            (sym (ap (λ (l : LiveState _). l.cell) after.state)) after.due.fit;
        parts = ap (λ (l : LiveState _). l.parts) after.state
            ∙ ap (λ (cell : Cell). replay cell opening) (sym (ap (λ (l : LiveState _). l.cell) after.state));
        counts = after.taken.1 c.requires.buffers.counts (omega (arith, after.few));
        number = omega (arith, ap (λ (l : LiveState _). l.len) after.state, ap (λ (l : LiveState _). length l.pending) after.state);
        waiters = ap (λ (q : QueueState). q.waiters) c.requires.buffers.queue;
      };
      disk = opened.stands;
    }))

pub returns-clause-served : goal.returns-clause-served
returns-clause-served g c =
    let input = peer_gave g.T.Peer c.args.peer.now c.end_early.new.peer in
    let sink = peer_took g.T.Peer c.args.peer.now c.end_early.new.peer in
    let error = c.in-Err.field-0 in
    let not = subst (λ (text : List ℕ). IsHandedBack g.D.Disk.reads_as g.D.Disk.may_leave g.D.Disk.moment g.D.Disk.left_since c.args.disk
    text error.disk error.why) c.deref.ensures.value c.in-Err.ensures.leaves in
    let refused = subst (λ (text : List ℕ). IsRefusalOf (g.D.Disk.reads_as c.args.disk)
    (λ file. opened_as c.args.held.cell file text MAX_SERVED) error.why) c.deref.ensures.value c.in-Err.ensures.opened in
    subst (λ (d : _). IsServedOnJournal (disk_told g.D.Disk.reads_as g.D.Disk.may_leave g.D.Disk.moment g.D.Disk.left_since
    g.D.Disk.faults c.args.disk d) input sink (known c.args.held) c.end_early.result.status)
    (sym c.end_early.ensures.disk)
    (NotOpened c.at_open_fault.result
    (subst (λ (end : EarlyEnd). IsNotOpened (disk_told g.D.Disk.reads_as g.D.Disk.may_leave g.D.Disk.moment g.D.Disk.left_since
    g.D.Disk.faults c.args.disk error.disk) (to_add (known c.args.held) MAX_SERVED) end) (sym c.at_open_fault.ensures)
    (not_opened g.D.Disk.reads_as g.D.Disk.may_leave g.D.Disk.moment g.D.Disk.left_since g.D.Disk.faults
    (known c.args.held) c.args.disk error.disk error.why refused c.in-Err.ensures.cause not))
    c.end_early.ensures.delivered)

pub returns-in-Ok-clause-moments : goal.returns-in-Ok-clause-moments
returns-in-Ok-clause-moments g c = λ given before given_is put_is clock.
    let disk = c.args.disk in
    let live = c.in-Ok.field-0.live in
    let opening : List Grant = c.in-Ok.ensures.opened.0 in
    let after = c.in-Ok.ensures.opened.1 in
    let opened = subst (λ (text : List ℕ). IsOpened g.D.Disk.reads_as g.D.Disk.may_leave g.D.Disk.moment g.D.Disk.left_since disk
    text opening
    live.disk) c.deref.ensures.value after.stands in
    let exact = subst (λ (text : List ℕ). IfSome (g.D.Disk.reads_as disk)
    (λ file. opened_as c.args.held.cell file text MAX_SERVED ≡ Ok opening)) c.deref.ensures.value after.exact in
    where_told (g.D.Disk.reads_as disk) _ (λ file is. Opened opening (told _ _ file is exact)
    (lives_since g.D.Disk g.T.Peer given before disk c.args.peer.now given_is put_is clock (known c.args.held) opening after.few _
    c.serve_live.result.disk c.serve_live.new.peer file is (ap (λ (l : LiveState _). l.cell) after.state)
    (record {
      at = record {
        fit = subst (λ (cell : Cell). All (λ (grant : Grant). RequestFits cell grant.request) opening)
            (sym (ap (λ (l : LiveState _). l.cell) after.state)) after.due.fit;
        parts = ap (λ (l : LiveState _). l.parts) after.state
            ∙ ap (λ (cell : Cell). replay cell opening) (sym (ap (λ (l : LiveState _). l.cell) after.state));
        counts = after.taken.1 c.requires.buffers.counts (omega (arith, after.few));
        number = omega (arith, ap (λ (l : LiveState _). l.len) after.state, ap (λ (l : LiveState _). length l.pending) after.state);
        waiters = ap (λ (q : QueueState). q.waiters) c.requires.buffers.queue;
      };
      disk = opened.stands;
    }) opened c.serve_live.ensures.lives))

pub returns-clause-moments : goal.returns-clause-moments
returns-clause-moments g c = λ given before given_is put_is clock.
    let error = c.in-Err.field-0 in
    let line = early_line c.at_open_fault.result in
    let not = subst (λ (text : List ℕ). IsHandedBack g.D.Disk.reads_as g.D.Disk.may_leave g.D.Disk.moment g.D.Disk.left_since c.args.disk
    text error.disk error.why) c.deref.ensures.value c.in-Err.ensures.leaves in
    where_told (g.D.Disk.reads_as c.args.disk) _ (λ file is. Unopened line
    (subst (λ (d : _). RunsTo g.D.Disk g.T.Peer c.args.peer.now c.args.disk c.end_early.new.peer d
    (IsUnopened (g.D.Disk.may_leave c.args.disk) given before file line)) (sym c.end_early.ensures.disk)
    (handed_back g.D.Disk g.T.Peer given before c.args.disk c.args.peer.now given_is put_is clock file line c.args.held.text.items
    error.disk c.end_early.new.peer error.why is not c.end_early.ensures.beside)))
