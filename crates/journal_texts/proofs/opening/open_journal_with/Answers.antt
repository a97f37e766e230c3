-- What the opening answers is handed on.
use Rattle.durable_cell.specs.declared.opening.Heard.{Heard}
use Rattle.cell_texts.specs.Tests.{known}
use Rattle.journal_texts.proofs.Openings.{ended, is_new, is_opened_as, seen-heard, taken}
use Rattle.journal_texts.proofs.opening.open_journal_with.Goals as goal

pub returns-clause-new : goal.returns-clause-new
returns-clause-new g c =
    is_new (λ (h : Heard _ _ _). h.durable) g.D.Disk.reads_as g.D.Disk.may_leave g.D.Disk.moment g.D.Disk.left_since g.D.Disk.faults
    (known c.args.held) c.args.disk c.args.room c.args.limit c.deref.result.now c.deref.ensures.value c.open_with.result _
    (seen-heard c.open_with.result) c.opened_or_end.result c.opened_or_end.ensures c.open_with.ensures.new

pub returns-clause-opening : goal.returns-clause-opening
returns-clause-opening g c =
    is_opened_as (λ (h : Heard _ _ _). h.durable) g.D.Disk.reads_as g.D.Disk.may_leave g.D.Disk.moment g.D.Disk.left_since g.D.Disk.faults
    (known c.args.held) c.args.disk c.args.room c.args.limit c.deref.result.now c.deref.ensures.value c.open_with.result _
    (seen-heard c.open_with.result) c.opened_or_end.result c.opened_or_end.ensures c.open_with.ensures.exact

pub returns-clause-taken : goal.returns-clause-taken
returns-clause-taken g c =
    taken g.K.GrantVisitor.visited c.args.kept c.open_with.result c.opened_or_end.result c.opened_or_end.ensures c.open_with.ensures.taken

pub returns-clause-ended : goal.returns-clause-ended
returns-clause-ended g c =
    ended (λ (h : Heard _ _ _). h.durable) g.D.Disk.reads_as g.D.Disk.may_leave g.D.Disk.moment g.D.Disk.left_since g.D.Disk.faults
    (known c.args.held) c.args.disk c.args.room c.args.limit c.deref.result.now c.deref.ensures.value c.open_with.result _
    (seen-heard c.open_with.result) c.opened_or_end.result c.opened_or_end.ensures c.open_with.ensures.exact c.open_with.ensures.cause
    c.open_with.ensures.leaves
