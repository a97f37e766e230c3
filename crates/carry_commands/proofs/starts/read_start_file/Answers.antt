-- What the bytes that were read stand for is what the file stands for.
use Rattle.cell_walks.specs.Observed.{files_told}
use Rattle.carry_commands.proofs.StartCuts.{requests_read, requests_refused}
use Rattle.carry_commands.proofs.starts.read_start_file.Goals as goal

pub returns-in-Ok-read_start-clause-read : goal.returns-in-Ok-read_start-clause-read
returns-in-Ok-read_start-clause-read g c =
    requests_read (files_told g.F.Files.holds g.F.Files.is_sound g.F.Files.faults c.args.files.now c.read_named.new.files) c.args.name.now
    c.in-Ok.bytes.items c.args.cell.now c.requires c.in-Ok.ensures.read c.in-Ok-read_start.requests
    (rw (← c.deref.ensures.value) c.in-Ok-read_start.ensures.found)

pub returns-clause-ended : goal.returns-clause-ended
returns-clause-ended g c =
    rw c.at_record_fault.ensures
    (requests_refused (files_told g.F.Files.holds g.F.Files.is_sound g.F.Files.faults c.args.files.now c.read_named.new.files)
    c.args.name.now c.in-Ok.bytes.items c.args.cell.now c.requires c.in-Ok.ensures.read c.in-Err-read_start.fault
    (rw (← c.deref.ensures.value) c.in-Err-read_start.ensures.refused))
