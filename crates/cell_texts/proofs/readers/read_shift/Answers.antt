-- What is made of the bytes that were read is made of the file.
use Rattle.cell_walks.specs.Observed.{files_told}
use Rattle.cell_texts.proofs.Cuts.{shift_read, shift_refused}
use Rattle.cell_texts.proofs.readers.read_shift.Goals as goal

pub returns-in-Ok-read_shift-clause-read : goal.returns-in-Ok-read_shift-clause-read
returns-in-Ok-read_shift-clause-read g c =
    shift_read (files_told g.F.Files.holds g.F.Files.is_sound g.F.Files.faults c.args.files.now c.read_named.new.files) c.args.name.now
    c.in-Ok.bytes.items c.args.cell.now c.in-Ok-read_shift.shift c.in-Ok.ensures.read
    (rw (← c.deref.ensures.value) c.in-Ok-read_shift.ensures.shift)

pub returns-clause-ended : goal.returns-clause-ended
returns-clause-ended g c =
    rw c.at_shift_fault.ensures
    (shift_refused (files_told g.F.Files.holds g.F.Files.is_sound g.F.Files.faults c.args.files.now c.read_named.new.files) c.args.name.now
    c.in-Ok.bytes.items c.args.cell.now c.in-Err-read_shift.fault c.in-Ok.ensures.read
    (rw (← c.deref.ensures.value) c.in-Err-read_shift.ensures.shift))
