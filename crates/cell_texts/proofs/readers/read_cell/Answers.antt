-- What is made of the bytes that were read is made of the file.
use Rattle.cell_walks.specs.Observed.{files_told}
use Rattle.cell_texts.proofs.Cuts.{cell_read, cell_refused}
use Rattle.std.proofs.Common.{refl}
use Rattle.cell_texts.proofs.readers.read_cell.Goals as goal

pub returns-in-Ok-read_cell-clause-read : goal.returns-in-Ok-read_cell-clause-read
returns-in-Ok-read_cell-clause-read g c =
    (cell_read (files_told g.F.Files.holds g.F.Files.is_sound g.F.Files.faults c.args.files.now c.read_named.new.files) c.args.name.now
    c.in-Ok.text.items c.in-Ok-read_cell.cell c.in-Ok.text.items c.in-Ok.ensures.read
    (rw (← c.deref.ensures.value) c.in-Ok-read_cell.ensures.cell) refl).0

pub returns-in-Ok-read_cell-clause-short : goal.returns-in-Ok-read_cell-clause-short
returns-in-Ok-read_cell-clause-short g c =
    (cell_read (files_told g.F.Files.holds g.F.Files.is_sound g.F.Files.faults c.args.files.now c.read_named.new.files) c.args.name.now
    c.in-Ok.text.items c.in-Ok-read_cell.cell c.in-Ok.text.items c.in-Ok.ensures.read
    (rw (← c.deref.ensures.value) c.in-Ok-read_cell.ensures.cell) refl).1

pub returns-in-Err-read_cell-clause-ended : goal.returns-in-Err-read_cell-clause-ended
returns-in-Err-read_cell-clause-ended g c =
    rw c.at_cell_fault.ensures
    (cell_refused (files_told g.F.Files.holds g.F.Files.is_sound g.F.Files.faults c.args.files.now c.read_named.new.files) c.args.name.now
    c.in-Ok.text.items c.in-Err-read_cell.fault c.in-Ok.ensures.read
    (rw (← c.deref.ensures.value) c.in-Err-read_cell.ensures.cell))
