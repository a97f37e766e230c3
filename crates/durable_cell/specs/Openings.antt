-- What the opening of a durable cell answers.
use Rattle.std.specs.Prelude.{◌≡◌, ◌⊎◌, ℕ, Option, None, IfSome, Result, Ok, Err, List, [], ⊤}
use Rattle.cell_base.specs.declared.cells.Cell.{Cell}
use Rattle.cell_base.specs.declared.shifts.Grant.{Grant}
use Rattle.journal_format.specs.declared.fault.JournalFault.{JournalFault}
use Rattle.shift_recovery.specs.declared.open_error.OpenError.{OpenError}
use Rattle.shift_recovery.specs.declared.open_error.OpenFault.{OpenFault}
use Rattle.shift_recovery.specs.declared.open_error.OpenFault.TheVariants as fault
use Rattle.shift_recovery.specs.Opening.{HasOpenCause, IsOutside, IsRefusalOf, disk_of}
use Rattle.journal_format.specs.Reads.{OnlyReads}
use Rattle.durable_cell.specs.declared.opening.Heard.{Heard}
use Rattle.durable_cell.specs.declared.opening.Opening.{Opening}
use Rattle.durable_cell.specs.declared.opening.Opening.TheVariants.{Open, Refused, Device, Memory}
use Rattle.durable_cell.specs.DurableState.{DurableState}
use Rattle.durable_cell.specs.Kept.{KeepsDisk}
use Rattle.durable_cell.specs.Made.{IsUnmade}

-- a durable cell of this cell and its text, on a disk as it was handed in, found and left, in which nothing was decided yet
abbrev pub fresh : {D : Type 0} → Cell → List ℕ → D → D → D → List Grant → ℕ → DurableState D
fresh cell text entry found disk opening limit = record {
  cell = cell;
  text = text;
  entry = entry;
  found = found;
  disk = disk;
  opening = opening;
  history = [];
  added = [];
  unsure = None;
  limit = limit;
}

-- an opening, as what was opened or the disk with the cause
abbrev pub opened_of : {D O : Type 0} → Opening D O → Result O (OpenError D)
opened_of (Open opened) = Ok opened
opened_of (Refused disk why) = Err (record { disk = disk; why = fault.Refused why })
opened_of (Device disk) = Err (record { disk = disk; why = fault.Device })
opened_of (Memory disk) = Err (record { disk = disk; why = fault.Memory })

-- the durable cell without the visitor
abbrev pub durable_heard : {D G K : Type 0} → Result (Heard D G K) (OpenError D) → Result (DurableState D) (OpenError D)
durable_heard (Ok heard) = Ok heard.durable
durable_heard (Err error) = Err error

abbrev pub heard_of : {D G K : Type 0} → Opening D (Heard D G K) → Result (DurableState D) (OpenError D)
heard_of opening = durable_heard (opened_of opening)

-- what is opened is such a cell
abbrev pub IsNew : {D : Type 0} → Cell → List ℕ → D → ℕ → Result (DurableState D) (OpenError D) → Type 0
IsNew cell text disk limit (Ok durable) = durable ≡ fresh cell text disk durable.found durable.disk durable.opening limit
IsNew cell text disk limit (Err error) = ⊤

-- the answer is what the bytes open as, where they are told
abbrev pub IsAnswer : {D : Type 0} → Option (List ℕ) → (List ℕ → Result (List Grant) JournalFault) → Result (DurableState D) (OpenError D)
    → Type 0
IsAnswer told opens (Ok durable) = IfSome told (λ file. opens file ≡ Ok durable.opening)
IsAnswer told opens (Err error) = IsRefusalOf told opens error.why

-- what is opened stands after these grants, and the disk is not refused
abbrev pub IsFound : {D : Type 0} → List Grant → Result (DurableState D) (OpenError D) → Type 0
IsFound grants (Ok durable) = durable.opening ≡ grants
IsFound grants (Err error) = IsOutside error.why

-- where a cell is opened, what is kept of its opening has seen its grants
abbrev pub HasTaken : {D G K : Type 0} → (K → ℕ → List Grant → K → Type 0) → K → Result (Heard D G K) (OpenError D) → Type 0
HasTaken visited old (Ok heard) = (first : ℕ) × visited old first heard.durable.opening heard.kept
HasTaken visited old (Err error) = ⊤

-- the count rises where the answer is that the device failed, and stays with every other answer
abbrev pub HasCause : {D : Type 0} → (D → ℕ) → D → Result (DurableState D) (OpenError D) → Type 0
HasCause {D} faults old result = HasOpenCause (faults old) (faults (disk_of (λ (durable : DurableState D). durable.disk) result)) result

-- a disk that is handed back was only read; or the device failed in the making of a journal on a blank one
abbrev pub IsHandedBack : {D : Type 0} → (D → Option (List ℕ)) → (D → List ℕ → Type 0) → (D → ℕ) → (D → ℕ → List ℕ → Type 0)
    → D → List ℕ → D → OpenFault → Type 0
IsHandedBack reads_as may_leave moment left_since old text disk (fault.Refused why) =
    OnlyReads reads_as may_leave moment left_since old disk
IsHandedBack reads_as may_leave moment left_since old text disk fault.Device =
    OnlyReads reads_as may_leave moment left_since old disk ⊎ IsUnmade reads_as may_leave moment left_since old text disk
IsHandedBack reads_as may_leave moment left_since old text disk fault.Memory =
    OnlyReads reads_as may_leave moment left_since old disk

-- and what is opened keeps its disk
abbrev pub Leaves : {D : Type 0} → (D → Option (List ℕ)) → (D → List ℕ → Type 0) → (D → ℕ) → (D → ℕ → List ℕ → Type 0) → (D → ℕ)
    → D → List ℕ → Result (DurableState D) (OpenError D) → Type 0
Leaves reads_as may_leave moment left_since faults old text (Ok durable) =
    KeepsDisk reads_as may_leave moment left_since faults durable
Leaves reads_as may_leave moment left_since faults old text (Err error) =
    IsHandedBack reads_as may_leave moment left_since old text error.disk error.why
