-- What the bytes that were read stand for is what the file stands for.
use Rattle.cell_walks.specs.Observed.{files_told}
use Rattle.cell_commands.proofs.RecordCuts.{blocks_judged, blocks_refused}
use Rattle.cell_commands.proofs.verdicts.check_record.Goals as goal

pub returns-in-Ok-check_text-clause-judged : goal.returns-in-Ok-check_text-clause-judged
returns-in-Ok-check_text-clause-judged g c =
    blocks_judged (files_told g.F.Files.holds g.F.Files.is_sound g.F.Files.faults c.args.files.now c.read_named.new.files) c.args.name.now
    c.in-Ok.bytes.items c.args.cell.now c.in-Ok.ensures.read _ c.requires
    (rw (← c.deref.ensures.value) c.in-Ok-check_text.ensures.judged)

pub returns-clause-ended : goal.returns-clause-ended
returns-clause-ended g c =
    rw c.at_record_fault.ensures
    (blocks_refused (files_told g.F.Files.holds g.F.Files.is_sound g.F.Files.faults c.args.files.now c.read_named.new.files) c.args.name.now
    c.in-Ok.bytes.items c.args.cell.now c.in-Ok.ensures.read c.in-Err-check_text.fault
    (rw (← c.deref.ensures.value) c.in-Err-check_text.ensures.refused))
