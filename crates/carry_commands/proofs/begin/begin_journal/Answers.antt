-- The journal is opened and begun, or the command ends there.
use Rattle.std.proofs.Common.{refl, ◌∙◌}
use Rattle.cell_walks.specs.Allowed.{NotOpened}
use Rattle.cell_texts.specs.Tests.{known}
use Rattle.carry_commands.proofs.Began.{begun_opened}
use Rattle.carry_commands.proofs.Comparing.{first_other, none_other}
use Rattle.carry_commands.proofs.begin.begin_journal.Goals as goal

pub begin_opened-requires-clause-none : goal.begin_opened-requires-clause-none
begin_opened-requires-clause-none g c =
    let kept = c.in-Ok.field-0.kept in let taken = c.in-Ok.ensures.taken.1 in
    none_other kept.requests.now c.in-Ok.field-0.durable.opening kept.held c.args.requests.now
    (taken.0 ∙ c.new-compared.ensures.requests) kept.other taken.1

pub begin_opened-requires-clause-some : goal.begin_opened-requires-clause-some
begin_opened-requires-clause-some g c =
    let kept = c.in-Ok.field-0.kept in let taken = c.in-Ok.ensures.taken.1 in
    first_other kept.requests.now c.in-Ok.field-0.durable.opening kept.held c.args.requests.now
    (taken.0 ∙ c.new-compared.ensures.requests) kept.other taken.1

pub returns-in-Ok-clause-begun : goal.returns-in-Ok-clause-begun
returns-in-Ok-clause-begun g c =
    begun_opened g.D.Disk.reads_as g.D.Disk.may_leave g.D.Disk.moment g.D.Disk.left_since g.D.Disk.faults (known c.args.held)
    c.args.requests.now c.args.disk c.begin_opened.result.disk c.in-Ok.field-0.durable _ c.begin_opened.result.made c.in-Ok.ensures.new
    c.in-Ok.ensures.opening c.begin_opened.ensures.due c.begin_opened.ensures.begun

pub returns-in-Err-clause-begun : goal.returns-in-Err-clause-begun
returns-in-Err-clause-begun g c =
    rw (c.ended.ensures.made, c.ended.ensures.disk)
    (NotOpened c.in-Err.unopened.made c.in-Err.ensures.ended refl)
