-- What becomes of an opening: what was opened goes on, or the command ends and gives its disk back.
use Rattle.std.specs.Prelude.{Result, Ok, Err, Some}
use Rattle.shift_recovery.specs.declared.open_error.OpenFault.{OpenFault}
use Rattle.shift_recovery.specs.declared.open_error.OpenFault.TheVariants as fault
use Rattle.durable_cell.specs.declared.opening.Opening.{Opening}
use Rattle.durable_cell.specs.declared.opening.Opening.TheVariants.{Open, Refused, Device, Memory}
use Rattle.cell_walks.specs.Walks.{end_with}
use Rattle.cell_walks.specs.declared.early_end.EarlyEnd.{EarlyEnd}
use Rattle.cell_walks.specs.declared.early_end.EarlyEnd.TheVariants.{DeviceFailed, WantOfMemory}
use Rattle.cell_walks.specs.declared.early_end.Subject.TheVariants.{Journal}
use Rattle.cell_texts.specs.declared.made.Made.{Made}
use Rattle.journal_texts.specs.Tests.{journal_line}

-- what was opened, or the end of the command with the disk that was handed in
abbrev pub opened_or_end : {D O : Type 0} → Opening D O → Result O (Made EarlyEnd D)
opened_or_end (Open opened) = Ok opened
opened_or_end (Refused disk why) = Err (record { made = end_with Journal (Some (journal_line why)); disk = disk })
opened_or_end (Device disk) = Err (record { made = DeviceFailed; disk = disk })
opened_or_end (Memory disk) = Err (record { made = WantOfMemory; disk = disk })

-- the end of the command at a disk that was not opened
abbrev pub end_unopened : OpenFault → EarlyEnd
end_unopened (fault.Refused why) = end_with Journal (Some (journal_line why))
end_unopened fault.Device = DeviceFailed
end_unopened fault.Memory = WantOfMemory
