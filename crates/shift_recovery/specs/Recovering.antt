-- The answers of recovery.
use Rattle.std.specs.Prelude.{◌≡◌, ℕ, ◌≤◌, false, Option, Some, None, Result, Ok, Err, List, length, ⊤}
use Rattle.cell_base.specs.declared.shifts.Grant.{Grant}
use Rattle.outside_io.specs.Causes.{Rose}
use Rattle.journal_format.specs.Blanks.{IsBlank}
use Rattle.move_journal.specs.Disks.{Rests}
use Rattle.journal_format.specs.Journals.{IsJournal}
use Rattle.journal_format.specs.declared.fault.JournalFault.{JournalFault}
use Rattle.shift_recovery.specs.declared.recoveries.Opened.{Opened}
use Rattle.shift_recovery.specs.declared.recoveries.Opened.TheVariants.{Fresh, Found, Refused, Device, Memory}

-- the disk that an answer has
abbrev pub disk_recovered : {D : Type 0} → Opened D → D
disk_recovered (Fresh blank) = blank
disk_recovered (Found journal grants) = journal.disk
disk_recovered (Refused disk why) = disk
disk_recovered (Device disk) = disk
disk_recovered (Memory disk) = disk

-- the answer is what the bytes are read as
abbrev pub IsAnswer : {D : Type 0} → Opened D → Result (Option (List Grant)) JournalFault → Type 0
IsAnswer (Fresh blank) read = read ≡ Ok None
IsAnswer (Found journal grants) read = read ≡ Ok (Some grants)
IsAnswer (Refused disk why) read = read ≡ Err why
IsAnswer (Device disk) read = ⊤
IsAnswer (Memory disk) read = ⊤

-- what is known of the disk, where it tells, and of the journal in any case
abbrev pub Answers : {D : Type 0} → (D → Option (List ℕ)) → (D → List ℕ → Type 0) → List ℕ → Opened D → Type 0
Answers reads_as may_leave text (Fresh blank) = Rests reads_as may_leave blank IsBlank
Answers reads_as may_leave text (Found journal grants) =
    (journal.len ≡ length grants) × (journal.is_halted ≡ false) × Rests reads_as may_leave journal.disk (λ file. IsJournal file text grants)
Answers reads_as may_leave text (Refused disk why) = Rests reads_as may_leave disk (λ file. ⊤)
Answers reads_as may_leave text (Device disk) = ⊤
Answers reads_as may_leave text (Memory disk) = ⊤

-- no more grants are found than there is room for, whether the disk tells or not
abbrev pub HasRoom : {D : Type 0} → ℕ → Opened D → Type 0
HasRoom room (Found journal grants) = length grants ≤ room
HasRoom room answer = ⊤

-- the count rises where the answer is that the device failed, and stays with every other answer
abbrev pub HasOpeningCause : {D : Type 0} → ℕ → ℕ → Opened D → Type 0
HasOpeningCause before now (Device disk) = Rose before now
HasOpeningCause before now answer = now ≡ before
