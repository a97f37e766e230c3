-- The start is read and tried, and then it is asked of the journal.
use Rattle.std.proofs.Common.{List, subst}
use Rattle.cell_base.specs.declared.requests.Request.{Request}
use Rattle.cell_walks.specs.DiskTold.{disk_seen}
use Rattle.cell_walks.specs.Observed.{files_seen}
use Rattle.cell_texts.specs.Tests.{known}
use Rattle.cell_driver.proofs.Driven.{untouched_by}
use Rattle.carry_commands.specs.Beginning.{EndsBeforeJournal, IsBegunOnJournal, IsGrantedStart}
use Rattle.carry_commands.proofs.Began.{begin_on_disk, begin_refused, begin_without_start}
use Rattle.carry_commands.proofs.begin.BeginCommand.answer.Goals as goal

pub returns-in-Err-clause-allowed : goal.returns-in-Err-clause-allowed
returns-in-Err-clause-allowed g c =
    rw (c.ended-in-Err.ensures.made, c.ended-in-Err.ensures.disk)
    (begin_without_start (files_seen g.F.Files c.args.files.now c.read_start_file.new.files) (disk_seen g.D.Disk c.args.disk c.args.disk)
    (known c.args.held) c.args.self.now.start.now c.in-Err.end (untouched_by g.D.Disk c.args.disk (g.met.D.Disk.only_now c.args.disk))
    c.in-Err.ensures.ended)

pub returns-in-Err-check_start-clause-allowed : goal.returns-in-Err-check_start-clause-allowed
returns-in-Err-check_start-clause-allowed g c =
    rw (c.ended.ensures.made, c.ended.ensures.disk)
    (begin_refused (files_seen g.F.Files c.args.files.now c.read_start_file.new.files) (disk_seen g.D.Disk c.args.disk c.args.disk)
    (known c.args.held) c.args.self.now.start.now c.in-Ok.requests c.in-Ok.ensures.read c.in-Err-check_start.end
    (untouched_by g.D.Disk c.args.disk (g.met.D.Disk.only_now c.args.disk))
    (subst (λ (requests : List Request). EndsBeforeJournal c.args.held.cell requests c.in-Err-check_start.end) c.as_slice.ensures
    c.in-Err-check_start.ensures.ended))

pub returns-in-Ok-check_start-clause-allowed : goal.returns-in-Ok-check_start-clause-allowed
returns-in-Ok-check_start-clause-allowed g c =
    let disk = disk_seen g.D.Disk c.args.disk c.begin_journal.result.disk in
    begin_on_disk (files_seen g.F.Files c.args.files.now c.read_start_file.new.files) disk (known c.args.held) c.args.self.now.start.now
    c.in-Ok.requests c.in-Ok.ensures.read c.begin_journal.result.made
    (subst (λ (requests : List Request). IsGrantedStart c.args.held.cell requests) c.as_slice.ensures c.in-Ok-check_start.ensures.granted)
    (subst (λ (requests : List Request). IsBegunOnJournal disk (known c.args.held) requests c.begin_journal.result.made)
    c.as_slice-in-Ok-check_start.ensures c.begin_journal.ensures.begun)
