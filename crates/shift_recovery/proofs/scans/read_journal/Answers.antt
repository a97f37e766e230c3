-- The first piece has the head.
use Rattle.std.specs.Prelude.{Ok, Err, None}
use Rattle.std.proofs.Common.{◌≡◌, ◌∙◌, ap, refl, sym}
use Rattle.journal_format.specs.declared.head.Head.TheVariants.{Blank, Faulty}
use Rattle.journal_format.specs.Blanks.{HasForm}
use Rattle.journal_format.specs.Readings.{head_of, read_as}
use Rattle.journal_format.proofs.HeadReading.{form_is, reads_by_head}
use Rattle.outside_io.specs.Telling.{where_told}
use Rattle.shift_recovery.proofs.FirstPieces.{head_of_file}
use Rattle.shift_recovery.proofs.scans.read_journal.Goals as goal

pub returns-in-Blank-clause-exact : goal.returns-in-Blank-clause-exact
returns-in-Blank-clause-exact g c = (
  where_told _ (λ file. (read_as file c.args.cell_text.now c.args.room ≡ Ok None) × HasForm c.in-Blank.form file) (λ file is.
      let head = head_of_file _ c.in_ok-start.start.len c.in_ok-start.start.bytes.items file c.in_ok-start.ensures.piece
      (c.sync.ensures.same ∙ is) (Blank c.in-Blank.form)
      (ap (head_of c.in_ok-start.start.len) (sym c.deref.ensures.value) ∙ sym c.read_head.ensures.head ∙ c.in-Blank.is) in
      (reads_by_head file c.args.cell_text.now c.args.room (Blank c.in-Blank.form) head, form_is file c.in-Blank.form head)),
  refl,
)

pub returns-in-Faulty-clause-exact : goal.returns-in-Faulty-clause-exact
returns-in-Faulty-clause-exact g c =
    where_told _ (λ file. read_as file c.args.cell_text.now c.args.room ≡ Err c.in-Faulty.why) (λ file is.
    let head = head_of_file _ c.in_ok-start.start.len c.in_ok-start.start.bytes.items file c.in_ok-start.ensures.piece
    (c.sync.ensures.same ∙ is) (Faulty c.in-Faulty.why)
    (ap (head_of c.in_ok-start.start.len) (sym c.deref.ensures.value) ∙ sym c.read_head.ensures.head ∙ c.in-Faulty.is) in
    reads_by_head file c.args.cell_text.now c.args.room (Faulty c.in-Faulty.why) head)
