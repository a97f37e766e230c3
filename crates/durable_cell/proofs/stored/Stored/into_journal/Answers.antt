-- A blank disk is cleared and made a journal of no grants.
use Rattle.std.proofs.Common.{sym, subst}
use Rattle.outside_io.specs.Telling.{where_told, told}
use Rattle.journal_format.specs.Blanks.{IsBlank}
use Rattle.durable_cell.specs.declared.stored.Stored.{Stored}
use Rattle.durable_cell.specs.declared.stored.Stored.TheVariants as stored
use Rattle.durable_cell.specs.Made.{IsMade}
use Rattle.durable_cell.specs.StoredGrants.{disk_stored, IsStored}
use Rattle.durable_cell.proofs.Making.{made_blank}
use Rattle.durable_cell.proofs.stored.Stored.into_journal.Goals as goal

pub returns-in_ok-clear-in-Nothing : goal.returns-in_ok-clear-in-Nothing
returns-in_ok-clear-in-Nothing g c grants held =
    let blank = c.in-Nothing.blank in
    let is_stored : IsStored g.D.Disk.reads_as g.D.Disk.may_leave c.args.cell_text.now grants (stored.Nothing blank) =
    subst (λ (s : Stored _). IsStored g.D.Disk.reads_as g.D.Disk.may_leave c.args.cell_text.now grants s) c.in-Nothing.is held in
    let clears = c.in_ok-clear-in-Nothing.ensures in let creates = c.create.ensures in
    subst (λ (s : Stored _). IsMade g.D.Disk.reads_as g.D.Disk.may_leave g.D.Disk.moment g.D.Disk.left_since g.D.Disk.faults
    (disk_stored s) c.args.cell_text.now grants c.create.result) (sym c.in-Nothing.is)
    (made_blank g.D.Disk.reads_as g.D.Disk.may_leave g.D.Disk.moment g.D.Disk.left_since g.D.Disk.faults blank
    c.in_ok-clear-in-Nothing.field-0 c.args.cell_text.now grants c.create.result is_stored.0
    (record {
      was_blank = where_told (g.D.Disk.reads_as blank) IsBlank (λ file is. (told _ _ file is is_stored.1).0);
      tells = clears.tells;
      any_moment = clears.any_moment;
      cause = clears.cause;
    })
    (record {
      empty = creates.empty;
      runs = creates.runs;
      no_fault = creates.no_fault;
      device = creates.device;
      stored = creates.stored;
      kept = creates.kept;
      tells = creates.tells;
      any_moment = creates.any_moment;
    }))
