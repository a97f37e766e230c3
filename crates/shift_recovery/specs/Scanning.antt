-- What is found where the grants of a disk are handed on.
use Rattle.std.specs.Prelude.{◌≡◌, ℕ, ◌+◌, ◌*◌, ◌^◌, ◌≤◌, false, Option, Some, None, IfSome, Ok, Err, List, length}
use Rattle.cell_base.specs.declared.shifts.Grant.{Grant}
use Rattle.entry_codec.specs.declared.encoder.TheConstants.{ENTRY_SIZE}
use Rattle.journal_format.specs.declared.head.TheConstants.{TEXT_AT}
use Rattle.journal_format.specs.Blanks.{HasForm, IsBlank}
use Rattle.move_journal.specs.Disks.{Rests}
use Rattle.journal_format.specs.Journals.{IsJournal, gate_of}
use Rattle.move_journal.specs.Kept.{JournalState}
use Rattle.shift_recovery.specs.declared.scans.Scanned.{Scanned}
use Rattle.shift_recovery.specs.declared.scans.Scanned.TheVariants.{Fresh, Found}
use Rattle.shift_recovery.specs.declared.scans.Reading.{Reading}
use Rattle.shift_recovery.specs.declared.scans.Reading.TheVariants as reading
use Rattle.journal_format.specs.Readings.{read_as}

-- the disk of what stands on it
abbrev pub disk_scanned : {D : Type 0} → Scanned D → D
disk_scanned (Fresh blank) = blank
disk_scanned (Found journal) = journal.disk

-- The visitor saw the grants of a journal, no more than room. Where the disk tells, the bytes are read as these, the first gate stands
-- after the head and the text, and the disk rests on the journal.
pub record IsHandedOn {D T : Type 0} (reads_as : D → Option (List ℕ)) (may_leave : D → List ℕ → Type 0) (disk : D) (text : List ℕ)
    (room : ℕ) (visited : T → ℕ → List Grant → T → Type 0) (old new : T) (journal : JournalState D) : Type 0 where
  pub first : ℕ
  pub grants : List Grant
  pub taken : visited old first grants new
  pub few : length grants ≤ room
  pub len : journal.len ≡ length grants
  pub runs : journal.is_halted ≡ false
  pub read : IfSome (reads_as disk) (λ file. (read_as file text room ≡ Ok (Some grants)) × (first ≡ TEXT_AT + length text))
  pub rests : Rests reads_as may_leave journal.disk (λ file. IsJournal file text grants)

-- What stands there is what the bytes are read as; and what is known of the disk, where it tells, and of the visitor.
abbrev pub IsScan : {D T : Type 0} → (D → Option (List ℕ)) → (D → List ℕ → Type 0) → D → List ℕ → ℕ → (T → ℕ → List Grant → T → Type 0)
    → T → T → Scanned D → Type 0
IsScan reads_as may_leave disk text room visited old new (Fresh blank) =
    IfSome (reads_as disk) (λ file. read_as file text room ≡ Ok None) × Rests reads_as may_leave blank IsBlank × (new ≡ old)
IsScan reads_as may_leave disk text room visited old new (Found journal) =
    IsHandedOn reads_as may_leave disk text room visited old new journal

-- The visitor saw the grants of a journal, no more than room, and no offset wraps. Where they are told they are what the bytes are read
-- as, and what opens these is known.
pub record IsRead {T : Type 0} (told : Option (List ℕ)) (text : List ℕ) (room : ℕ) (visited : T → ℕ → List Grant → T → Type 0)
    (old new : T) (gate count : ℕ) : Type 0 where
  pub first : ℕ
  pub grants : List Grant
  pub taken : visited old first grants new
  pub few : length grants ≤ room
  pub counted : count ≡ length grants
  pub small : gate ≤ 2 ^ 33 + ENTRY_SIZE * length grants
  pub read : IfSome told (λ file. (read_as file text room ≡ Ok (Some grants)) × (first ≡ TEXT_AT + length text)
      × (gate ≡ gate_of text grants) × IsJournal file text grants)

-- a reading of the bytes, with what opens them
abbrev pub IsReading : {T : Type 0} → Option (List ℕ) → List ℕ → ℕ → (T → ℕ → List Grant → T → Type 0) → T → T → Reading → Type 0
IsReading told text room visited old new (reading.Blank form) =
    IfSome told (λ file. (read_as file text room ≡ Ok None) × HasForm form file) × (new ≡ old)
IsReading told text room visited old new (reading.Found gate count) = IsRead told text room visited old new gate count
IsReading told text room visited old new (reading.Faulty why) = IfSome told (λ file. read_as file text room ≡ Err why)
