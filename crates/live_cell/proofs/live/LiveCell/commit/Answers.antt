-- What an append says of the journal's disk holds of the cell's.
use Rattle.std.proofs.Common.{◌∙◌, ap, ◌++◌, subst}
use Rattle.move_journal.specs.Disks.{Shows}
use Rattle.journal_format.specs.Journals.{StandsFor, IsBeforeOrAfterAll}
use Rattle.live_cell.specs.LiveState.{LiveState}
use Rattle.live_cell.proofs.Committing.{shows_after}
use Rattle.live_cell.proofs.live.LiveCell.commit.Goals as goal

pub returns-in-Ok-clause-stored : goal.returns-in-Ok-clause-stored
returns-in-Ok-clause-stored g c text grants =
    let i = c.self.inside in let new = c.append_all.new.self.disk in
    subst (λ (s : LiveState _). Shows g.D.Disk.reads_as g.D.Disk.may_leave s.disk (λ old. StandsFor old text grants)
    → Shows g.D.Disk.reads_as g.D.Disk.may_leave new (λ file. StandsFor file text (grants ++ s.pending))) c.self.view_is
    (shows_after g.D.Disk.reads_as g.D.Disk.may_leave i.journal.disk new text grants
    (λ file. StandsFor file text (grants ++ i.group.grants)) c.in-Ok.ensures.tells
    (λ file is stands. c.in-Ok.ensures.stored file text grants is stands))

pub returns-in-Ok-clause-kept : goal.returns-in-Ok-clause-kept
returns-in-Ok-clause-kept g c text grants =
    let i = c.self.inside in let new = c.append_all.new.self.disk in
    let runs = ap (λ (s : LiveState _). s.is_halted) c.self.view_is ∙ c.requires.runs in
    subst (λ (s : LiveState _). Shows g.D.Disk.reads_as g.D.Disk.may_leave s.disk (λ old. StandsFor old text grants)
    → Shows g.D.Disk.reads_as g.D.Disk.may_leave new (IsBeforeOrAfterAll text grants s.pending)) c.self.view_is
    (shows_after g.D.Disk.reads_as g.D.Disk.may_leave i.journal.disk new text grants
    (IsBeforeOrAfterAll text grants i.group.grants) c.in-Ok.ensures.tells
    (λ file is stands. c.in-Ok.ensures.kept file text grants is stands runs))

pub returns-in-Err-clause-kept : goal.returns-in-Err-clause-kept
returns-in-Err-clause-kept g c text grants =
    let i = c.self.inside in let new = c.append_all.new.self.disk in
    let runs = ap (λ (s : LiveState _). s.is_halted) c.self.view_is ∙ c.requires.runs in
    subst (λ (s : LiveState _). Shows g.D.Disk.reads_as g.D.Disk.may_leave s.disk (λ old. StandsFor old text grants)
    → Shows g.D.Disk.reads_as g.D.Disk.may_leave new (IsBeforeOrAfterAll text grants s.pending)) c.self.view_is
    (shows_after g.D.Disk.reads_as g.D.Disk.may_leave i.journal.disk new text grants
    (IsBeforeOrAfterAll text grants i.group.grants) c.in-Err.ensures.tells
    (λ file is stands. c.in-Err.ensures.kept file text grants is stands runs))
