-- The disk was only read until a journal is made on it, and what was recalled are the grants that were read.
use Rattle.std.specs.Prelude.{Result, Ok, Err}
use Rattle.std.proofs.lemmas.Result.{err_from_is_err_and}
use Rattle.std.proofs.Common.{◌≡◌, ℕ, List, [], ◌∷◌, inr, sym, ◌∙◌, ap, subst}
use Rattle.cell_base.specs.declared.shifts.Grant.{Grant}
use Rattle.admission_core.specs.CoreState.{CoreState}
use Rattle.outside_io.specs.Causes.{Rose}
use Rattle.outside_io.specs.Telling.{told}
use Rattle.journal_format.specs.declared.fault.JournalFault.{JournalFault}
use Rattle.journal_format.proofs.Replaying.{stands_opened}
use Rattle.journal_format.proofs.Standing.{stands_found}
use Rattle.durable_cell.specs.DurableState.{DurableState}
use Rattle.durable_cell.specs.Kept.{Keeps}
use Rattle.durable_cell.specs.StoredGrants.{disk_stored, IsCore, IsStored}
use Rattle.journal_format.specs.Replayed.{opened_as}
use Rattle.durable_cell.proofs.HandedBack.{handed_back, is_outside}
use Rattle.durable_cell.proofs.Opened.{history_opened, parts_opened, seen_fresh, disk_opened, unmade_since}
use Rattle.durable_cell.proofs.durable.open_over.Goals as goal

pub invariant_of-durable : goal.invariant_of-durable
invariant_of-durable g c =
    let cell = c.args.cell in let text = c.args.cell_text.now in let disk = c.args.disk in let limit = c.args.limit in
    let found = disk_stored c.in_ok-core.field-0.stored in
    let resumed = c.in_ok-core.ensures.resumed in
    let grants = g.G.Recall.grants c.in_ok-core.field-0.kept.grants in let core = c.in_ok-core.field-0.core in
    let journal = c.in-Ok-into_journal.journal in
    let recalled : grants ≡ resumed.grants = resumed.taken.0 c.requires.no_grants in
    let shelves = c.in-Ok-reserve.shelves in let reserved = c.in-Ok-reserve.ensures in
    let is_found = reserved.found ∙ ap (λ (d : _). d ∷ []) c.disk.ensures in
    let is_core : IsCore cell c.args.room core grants = subst (λ (gs : List Grant). IsCore cell c.args.room core gs) (sym recalled)
    resumed.core in
    let holds : IsStored g.D.Disk.reads_as g.D.Disk.may_leave text grants c.in_ok-core.field-0.stored =
    subst (λ (gs : List Grant). IsStored g.D.Disk.reads_as g.D.Disk.may_leave text gs c.in_ok-core.field-0.stored) (sym recalled)
    resumed.holds in
    let made = c.in-Ok-into_journal.ensures grants holds in
    let is_fresh = seen_fresh c.in-Ok.entry shelves.found disk found cell core text shelves.text journal grants shelves.history.items
    shelves.added.items limit c.in-Ok.ensures is_found (ap (λ (k : CoreState). k.cell) is_core.state) reserved.text_is
    reserved.no_history reserved.none_added in
    subst (λ (d : DurableState _). Keeps g.D.Disk.reads_as g.D.Disk.may_leave g.D.Disk.moment g.D.Disk.left_since g.D.Disk.faults d
    c.in-Ok.entry shelves.found core journal shelves.history.spare shelves.added.spare) (sym is_fresh) (
      history_opened cell text disk found journal.disk grants limit c.requires.fits is_core.due,
      disk_opened g.D.Disk.reads_as g.D.Disk.may_leave g.D.Disk.moment g.D.Disk.left_since g.D.Disk.faults disk found
          cell text grants limit journal c.in_ok-core.ensures.reads c.in_ok-core.ensures.cause made,
      parts_opened cell text disk found grants limit c.args.room c.in-Ok.entry shelves.found core journal shelves.history.spare
          shelves.added.spare c.in-Ok.ensures is_found is_core c.requires.room c.requires.limit made.len made.runs
          reserved.history_room reserved.added_room,
    )

pub returns-in-Err-clause-cause : goal.returns-in-Err-clause-cause
returns-in-Err-clause-cause g c =
    subst (λ (n : ℕ). Rose n (g.D.Disk.faults c.in-Err.disk)) c.in_ok-core.ensures.cause
    (c.in-Err.ensures c.in_ok-core.ensures.resumed.grants c.in_ok-core.ensures.resumed.holds).1

pub returns-in-Err-clause-leaves : goal.returns-in-Err-clause-leaves
returns-in-Err-clause-leaves g c =
    inr (unmade_since g.D.Disk.reads_as g.D.Disk.may_leave g.D.Disk.moment g.D.Disk.left_since g.D.Disk.faults c.args.disk
    (disk_stored c.in_ok-core.field-0.stored) c.in-Err.disk c.args.cell_text.now c.in_ok-core.ensures.reads
    (c.in-Err.ensures c.in_ok-core.ensures.resumed.grants c.in_ok-core.ensures.resumed.holds).0)

pub returns-in-Ok-into_journal-clause-leaves : goal.returns-in-Ok-into_journal-clause-leaves
returns-in-Ok-into_journal-clause-leaves g c = (invariant_of-durable g c).1

pub returns-in-Ok-into_journal-clause-stands : goal.returns-in-Ok-into_journal-clause-stands
returns-in-Ok-into_journal-clause-stands g c file grants is stands due fits =
    let cell = c.args.cell in let text = c.args.cell_text.now in
    let opened = stands_opened cell file text c.args.room grants due (stands_found file text c.args.room grants stands fits) in
    let exact = told _ _ file is c.in_ok-core.ensures.resumed.opened in
    c.in_ok-core.ensures.resumed.taken.0 c.requires.no_grants ∙ ap value (sym exact ∙ opened)
  where
    value : Result (List Grant) JournalFault → List Grant
    value (Ok gs) = gs
    value (Err why) = []

pub returns-in_err-core-clause-leaves : goal.returns-in_err-core-clause-leaves
returns-in_err-core-clause-leaves g c =
    let p = err_from_is_err_and c.from_residual.result c.from_residual.ensures.1 in
    rw (p.1, p.2)
    (handed_back g.D.Disk.reads_as g.D.Disk.may_leave g.D.Disk.moment g.D.Disk.left_since c.args.disk c.args.cell_text.now
    c.in_err-core.field-0.0.disk c.in_err-core.field-0.0.why c.in_err-core.ensures.reads)

pub returns-in_err-core-clause-stands : goal.returns-in_err-core-clause-stands
returns-in_err-core-clause-stands g c file grants is stands due fits =
    let cell = c.args.cell in let text = c.args.cell_text.now in
    let opened = stands_opened cell file text c.args.room grants due (stands_found file text c.args.room grants stands fits) in
    let p = err_from_is_err_and c.from_residual.result c.from_residual.ensures.1 in
    rw (p.1, p.2)
    (is_outside _ (λ (bytes : List ℕ). opened_as cell bytes text c.args.room) file grants is opened c.in_err-core.field-0.0.why
    c.in_err-core.ensures.refused)
