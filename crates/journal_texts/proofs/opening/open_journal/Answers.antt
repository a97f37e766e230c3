-- What the opening answers is handed on.
use Rattle.durable_cell.specs.DurableState.{DurableState}
use Rattle.cell_texts.specs.Tests.{known}
use Rattle.journal_texts.proofs.Openings.{ended, is_new, is_opened_as, seen-durable}
use Rattle.journal_texts.proofs.opening.open_journal.Goals as goal

pub returns-clause-new : goal.returns-clause-new
returns-clause-new g c =
    is_new (λ (d : DurableState _). d) g.D.Disk.reads_as g.D.Disk.may_leave g.D.Disk.moment g.D.Disk.left_since g.D.Disk.faults
    (known c.args.held) c.args.disk c.args.room c.args.limit c.deref.result.now c.deref.ensures.value c.open.result _
    (seen-durable c.open.result) c.opened_or_end.result c.opened_or_end.ensures c.open.ensures.new

pub returns-clause-opening : goal.returns-clause-opening
returns-clause-opening g c =
    is_opened_as (λ (d : DurableState _). d) g.D.Disk.reads_as g.D.Disk.may_leave g.D.Disk.moment g.D.Disk.left_since g.D.Disk.faults
    (known c.args.held) c.args.disk c.args.room c.args.limit c.deref.result.now c.deref.ensures.value c.open.result _
    (seen-durable c.open.result) c.opened_or_end.result c.opened_or_end.ensures c.open.ensures.exact

pub returns-clause-ended : goal.returns-clause-ended
returns-clause-ended g c =
    ended (λ (d : DurableState _). d) g.D.Disk.reads_as g.D.Disk.may_leave g.D.Disk.moment g.D.Disk.left_since g.D.Disk.faults
    (known c.args.held) c.args.disk c.args.room c.args.limit c.deref.result.now c.deref.ensures.value c.open.result _
    (seen-durable c.open.result) c.opened_or_end.result c.opened_or_end.ensures c.open.ensures.exact c.open.ensures.cause
    c.open.ensures.leaves
