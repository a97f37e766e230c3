-- What an opening answers: something that has a disk, or the cause in its place and the disk as it was handed in.
use Rattle.std.specs.Prelude.{◌≡◌, ℕ, Option, IfSome, Result, Ok, Err, List, ⊤}
use Rattle.outside_io.specs.Causes.{Rose}
use Rattle.move_journal.specs.Disks.{Rests}
use Rattle.journal_format.specs.declared.fault.JournalFault.{JournalFault}
use Rattle.shift_recovery.specs.declared.stop.Stop.{Stop}
use Rattle.shift_recovery.specs.declared.stop.Stop.TheVariants as stop
use Rattle.shift_recovery.specs.declared.open_error.OpenError.{OpenError}
use Rattle.shift_recovery.specs.declared.open_error.OpenFault.{OpenFault}
use Rattle.shift_recovery.specs.declared.open_error.OpenFault.TheVariants.{Refused, Device, Memory}

-- the disk that an answer has
abbrev pub disk_of : {T D : Type 0} → (T → D) → Result T (OpenError D) → D
disk_of disk (Ok opened) = disk opened
disk_of disk (Err error) = error.disk

-- the count rises where the cause is that the device failed, and stays with every other
abbrev pub HasFaultCause : ℕ → ℕ → OpenFault → Type 0
HasFaultCause before now Device = Rose before now
HasFaultCause before now Memory = now ≡ before
HasFaultCause before now (Refused why) = now ≡ before

-- and with what is opened
abbrev pub HasOpenCause : {T D : Type 0} → ℕ → ℕ → Result T (OpenError D) → Type 0
HasOpenCause before now (Ok opened) = now ≡ before
HasOpenCause before now (Err error) = HasFaultCause before now error.why

-- a refusal is what the bytes open as, where they are told
abbrev pub IsRefusalOf : {X : Type 0} → Option (List ℕ) → (List ℕ → Result X JournalFault) → OpenFault → Type 0
IsRefusalOf told opens (Refused why) = IfSome told (λ file. opens file ≡ Err why)
IsRefusalOf told opens Device = ⊤
IsRefusalOf told opens Memory = ⊤

-- of a file that is refused the disk rests on what it reads as
abbrev pub RestsWhereRefused : {D : Type 0} → (D → Option (List ℕ)) → (D → List ℕ → Type 0) → D → OpenFault → Type 0
RestsWhereRefused reads_as may_leave disk (Refused why) = Rests reads_as may_leave disk (λ file. ⊤)
RestsWhereRefused reads_as may_leave disk Device = ⊤
RestsWhereRefused reads_as may_leave disk Memory = ⊤

-- it is no refusal
abbrev pub IsOutside : OpenFault → Type 0
IsOutside (Refused why) = ⊥
IsOutside Device = ⊤
IsOutside Memory = ⊤

-- why nothing is opened where the reading stopped
abbrev pub at_stop : Stop → OpenFault
at_stop stop.Device = Device
at_stop stop.Memory = Memory
