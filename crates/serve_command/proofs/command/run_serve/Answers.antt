-- The cell is read, and then its journal is served.
use Rattle.std.proofs.Common.{refl, subst, sym}
use Rattle.cell_walks.specs.Allowed.{ByMemory}
use Rattle.cell_walks.specs.DiskTold.{IsUntouched, disk_told}
use Rattle.cell_texts.specs.Tests.{known}
use Rattle.cell_texts.proofs.Disks.{untouched}
use Rattle.outside_io.specs.Telling.{where_told}
use Rattle.peers.specs.Runs.{RunsTo}
use Rattle.cell_walks.specs.Statuses.{early_line}
use Rattle.cell_walks.specs.declared.early_end.EarlyEnd.TheVariants.{WantOfMemory}
use Rattle.serve_command.specs.LivesThrough.{IsUnopened, Read, Unread}
use Rattle.serve_command.proofs.OpeningLives.{unread_end, weaker}
use Rattle.serve_command.proofs.Ending.{ends_early, ends_served}
use Rattle.serve_command.proofs.command.run_serve.Goals as goal

pub returns-in-Ok-reserve-clause-ends : goal.returns-in-Ok-reserve-clause-ends
returns-in-Ok-reserve-clause-ends g c = ends_served _ _ _ _ c.args.cell.now _ (known c.in-Ok.held) c.in-Ok.ensures.read c.serve_journal.ensures.served

pub returns-in-Err-reserve-clause-ends : goal.returns-in-Err-reserve-clause-ends
returns-in-Err-reserve-clause-ends g c =
    ends_early _ _ _ _ c.args.cell.now _ _ (ByMemory refl)
    (subst (λ (d : _). IsUntouched (disk_told g.D.Disk.reads_as g.D.Disk.may_leave g.D.Disk.moment g.D.Disk.left_since g.D.Disk.faults
    c.args.disk d)) (sym c.end_early.ensures.disk)
    (untouched g.D.Disk.reads_as g.D.Disk.may_leave g.D.Disk.moment g.D.Disk.left_since g.D.Disk.faults c.args.disk
    (g.met.D.Disk.only_now c.args.disk)))
    c.end_early.ensures.delivered

pub returns-in-Err-clause-ends : goal.returns-in-Err-clause-ends
returns-in-Err-clause-ends g c =
    ends_early _ _ _ _ c.args.cell.now _ c.in-Err.end c.in-Err.ensures.ended
    (subst (λ (d : _). IsUntouched (disk_told g.D.Disk.reads_as g.D.Disk.may_leave g.D.Disk.moment g.D.Disk.left_since g.D.Disk.faults
    c.args.disk d)) (sym c.end_early-in-Err.ensures.disk)
    (untouched g.D.Disk.reads_as g.D.Disk.may_leave g.D.Disk.moment g.D.Disk.left_since g.D.Disk.faults c.args.disk
    (g.met.D.Disk.only_now c.args.disk)))
    c.end_early-in-Err.ensures.delivered

pub returns-in-Ok-reserve-clause-moments : goal.returns-in-Ok-reserve-clause-moments
returns-in-Ok-reserve-clause-moments g c = λ given before given_is put_is clock.
    weaker (g.D.Disk.reads_as c.args.disk) _ _ (λ file lives. Read (known c.in-Ok.held) c.in-Ok.ensures.read lives)
    (c.serve_journal.ensures.moments given before given_is put_is clock)

pub returns-in-Err-reserve-clause-moments : goal.returns-in-Err-reserve-clause-moments
returns-in-Err-reserve-clause-moments g c = λ given before given_is put_is clock.
    where_told (g.D.Disk.reads_as c.args.disk) _ (λ file is. Unread (early_line WantOfMemory)
    (subst (λ (d : _). RunsTo g.D.Disk g.T.Peer c.args.peer.now c.args.disk c.end_early.new.peer d
    (IsUnopened (g.D.Disk.may_leave c.args.disk) given before file (early_line WantOfMemory))) (sym c.end_early.ensures.disk)
    (unread_end g.D.Disk g.T.Peer given before c.args.disk c.args.peer.now given_is put_is clock file (early_line WantOfMemory) c.end_early.new.peer
    (g.met.D.Disk.only_now c.args.disk) c.end_early.ensures.beside)))

pub returns-in-Err-clause-moments : goal.returns-in-Err-clause-moments
returns-in-Err-clause-moments g c = λ given before given_is put_is clock.
    where_told (g.D.Disk.reads_as c.args.disk) _ (λ file is. Unread (early_line c.in-Err.end)
    (subst (λ (d : _). RunsTo g.D.Disk g.T.Peer c.args.peer.now c.args.disk c.end_early-in-Err.new.peer d
    (IsUnopened (g.D.Disk.may_leave c.args.disk) given before file (early_line c.in-Err.end))) (sym c.end_early-in-Err.ensures.disk)
    (unread_end g.D.Disk g.T.Peer given before c.args.disk c.args.peer.now given_is put_is clock file (early_line c.in-Err.end) c.end_early-in-Err.new.peer
    (g.met.D.Disk.only_now c.args.disk) c.end_early-in-Err.ensures.beside)))
