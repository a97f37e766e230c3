-- The disk was only read until a journal is made on it, and what it stood for was replayed and taken.
use Rattle.std.specs.Prelude.{Ok}
use Rattle.std.proofs.Common.{◌≡◌, ℕ, List, inr, subst}
use Rattle.std.proofs.lemmas.Result.{err_from_is_err_and}
use Rattle.cell_base.specs.declared.shifts.Grant.{Grant}
use Rattle.outside_io.specs.Causes.{Rose}
use Rattle.outside_io.specs.Telling.{told}
use Rattle.journal_format.specs.Replayed.{opened_as}
use Rattle.journal_format.proofs.Replaying.{stands_opened}
use Rattle.journal_format.proofs.Standing.{stands_found}
use Rattle.durable_cell.specs.StoredGrants.{disk_stored}
use Rattle.durable_cell.proofs.HandedBack.{handed_back, is_outside}
use Rattle.durable_cell.proofs.Opened.{unmade_since}
use Rattle.live_cell.specs.LiveState.{seen}
use Rattle.live_cell.specs.Openings.{IsLiveAfter}
use Rattle.live_cell.proofs.Opened.{live_after}
use Rattle.live_cell.proofs.live.LiveCell.open.Goals as goal

pub returns-in-Err-clause-cause : goal.returns-in-Err-clause-cause
returns-in-Err-clause-cause g c =
    subst (λ (n : ℕ). Rose n (g.D.Disk.faults c.in-Err.disk)) c.in_ok-core.ensures.cause
    (c.in-Err.ensures c.in_ok-core.ensures.resumed.grants c.in_ok-core.ensures.resumed.holds).1

pub returns-in-Err-clause-leaves : goal.returns-in-Err-clause-leaves
returns-in-Err-clause-leaves g c =
    inr (unmade_since g.D.Disk.reads_as g.D.Disk.may_leave g.D.Disk.moment g.D.Disk.left_since g.D.Disk.faults c.args.disk
    (disk_stored c.in_ok-core.field-0.stored) c.in-Err.disk c.args.cell_text.now c.in_ok-core.ensures.reads
    (c.in-Err.ensures c.in_ok-core.ensures.resumed.grants c.in_ok-core.ensures.resumed.holds).0)

pub returns-in-Ok-into_journal-clause-opened : goal.returns-in-Ok-into_journal-clause-opened
returns-in-Ok-into_journal-clause-opened g c =
    let resumed = c.in_ok-core.ensures.resumed in (
      resumed.grants,
      live_after g.D.Disk.reads_as g.D.Disk.may_leave g.D.Disk.moment g.D.Disk.left_since g.D.Disk.faults c.args.cell c.args.cell_text.now
          c.args.room c.args.most g.K.GrantVisitor.visited c.args.disk c.args.kept c.in_ok-core.field-0
          c.in-Ok-into_journal.journal c.in-Ok.group resumed c.in_ok-core.ensures.reads
          (c.in-Ok-into_journal.ensures resumed.grants resumed.holds) c.in-Ok.ensures,
    )

pub returns-in-Ok-into_journal-clause-stands : goal.returns-in-Ok-into_journal-clause-stands
returns-in-Ok-into_journal-clause-stands g c file grants is stands due fits =
    let cell = c.args.cell in let text = c.args.cell_text.now in
    let after = returns-in-Ok-into_journal-clause-opened g c in
    let stood = stands_opened cell file text c.args.room grants due (stands_found file text c.args.room grants stands fits) in
    let exact = told (g.D.Disk.reads_as c.args.disk) (λ (f : List ℕ). opened_as cell f text c.args.room ≡ Ok after.0) file is
    after.1.exact in
    let same : after.0 ≡ grants = cc (stood, exact) in
    subst (λ (gs : List Grant). IsLiveAfter g.D.Disk.reads_as g.D.Disk.may_leave g.D.Disk.moment g.D.Disk.left_since cell text c.args.room
    c.args.most g.K.GrantVisitor.visited c.args.disk c.args.kept gs
    (seen c.in_ok-core.field-0.core c.in-Ok-into_journal.journal c.in-Ok.group c.args.room)
    c.in_ok-core.field-0.kept) same after.1

pub returns-in_err-core-clause-opened : goal.returns-in_err-core-clause-opened
returns-in_err-core-clause-opened g c =
    let p = err_from_is_err_and c.from_residual.result c.from_residual.ensures.1 in rw (p.1, p.2) c.in_err-core.ensures.refused

pub returns-in_err-core-clause-leaves : goal.returns-in_err-core-clause-leaves
returns-in_err-core-clause-leaves g c =
    let p = err_from_is_err_and c.from_residual.result c.from_residual.ensures.1 in
    rw (p.1, p.2)
    (handed_back g.D.Disk.reads_as g.D.Disk.may_leave g.D.Disk.moment g.D.Disk.left_since c.args.disk c.args.cell_text.now
    c.in_err-core.field-0.0.disk c.in_err-core.field-0.0.why c.in_err-core.ensures.reads)

pub returns-in_err-core-clause-stands : goal.returns-in_err-core-clause-stands
returns-in_err-core-clause-stands g c file grants is stands due fits =
    let cell = c.args.cell in let text = c.args.cell_text.now in
    let opened = stands_opened cell file text c.args.room grants due (stands_found file text c.args.room grants stands fits) in
    let p = err_from_is_err_and c.from_residual.result c.from_residual.ensures.1 in
    rw (p.1, p.2)
    (is_outside _ (λ (bytes : List ℕ). opened_as cell bytes text c.args.room) file grants is opened c.in_err-core.field-0.0.why
    c.in_err-core.ensures.refused)
