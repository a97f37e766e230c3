-- The cell is read, then the shift, and then memory is taken.
use Rattle.std.proofs.Common.{ap, refl, subst}
use Rattle.cell_base.specs.declared.cells.Cell.{Cell}
use Rattle.admission_core.specs.CoreState.{CoreState}
use Rattle.cell_walks.specs.DiskTold.{no_disk}
use Rattle.cell_walks.specs.Outcomes.{done}
use Rattle.cell_walks.proofs.Steps.{none_done}
use Rattle.cell_walks.proofs.TwoTests.{both_passed, first_ended, second_ended, starved_between}
use Rattle.cell_texts.specs.Tests.{cell_file, known, shift_file}
use Rattle.solo_command.specs.Solo.{IsSoloRecord}
use Rattle.solo_command.proofs.Soloing.{ran}
use Rattle.solo_command.proofs.solo.ready_of_files.Goals as goal

pub returns-clause-ended : goal.returns-clause-ended
returns-clause-ended g c =
    first_ended g.F.Files.holds g.F.Files.is_sound g.F.Files.faults no_disk (cell_file c.args.cell.now)
    (λ held. shift_file held.cell c.args.shift.now) ran c.args.files.now c.read_cell.new.files
    c.in-Err.end none_done c.in-Err.ensures.ended

pub returns-in-Ok-clause-ended : goal.returns-in-Ok-clause-ended
returns-in-Ok-clause-ended g c =
    second_ended g.F.Files.holds g.F.Files.is_sound g.F.Files.faults no_disk (cell_file c.args.cell.now)
    (λ held. shift_file held.cell c.args.shift.now) ran c.args.files.now c.read_cell.new.files
    c.read_shift.new.files (known c.in-Ok.held) c.in-Ok.ensures.read c.in-Ok.ensures.same
    c.in-Err-read_shift.end none_done
    c.in-Ok.ensures.kept c.in-Ok.ensures.stays_sound c.in-Err-read_shift.ensures.ended

pub returns-in-Ok-read_shift-clause-ended : goal.returns-in-Ok-read_shift-clause-ended
returns-in-Ok-read_shift-clause-ended g c =
    starved_between g.F.Files.holds g.F.Files.is_sound g.F.Files.faults no_disk (cell_file c.args.cell.now)
    (λ held. shift_file held.cell c.args.shift.now) ran c.args.files.now c.read_cell.new.files
    c.read_shift.new.files (known c.in-Ok.held) c.in-Ok.ensures.read c.in-Ok.ensures.same none_done

pub returns-in-Ok-open-clause-allowed : goal.returns-in-Ok-open-clause-allowed
returns-in-Ok-open-clause-allowed g c lines is =
    let opened = ap (λ (core : CoreState). core.cell) c.in-Ok-open.ensures in
    both_passed g.F.Files.holds g.F.Files.is_sound g.F.Files.faults no_disk (cell_file c.args.cell.now)
    (λ held. shift_file held.cell c.args.shift.now) ran c.args.files.now c.read_cell.new.files
    c.read_shift.new.files (known c.in-Ok.held) c.in-Ok.ensures.read c.in-Ok.ensures.same
    c.in-Ok-read_shift.shift (done lines)
    c.in-Ok-read_shift.ensures.read
    ((lines, subst (λ (cell : Cell). IsSoloRecord cell c.in-Ok-read_shift.shift lines) opened is, refl), none_done)
