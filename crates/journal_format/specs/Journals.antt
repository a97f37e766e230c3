-- The list of grants for which a file stands.
use Rattle.std.specs.Prelude.{◌≡◌, ◌≢◌, ◌⊎◌, ℕ, ◌+◌, ◌*◌, ◌<◌, ◌^◌, Some, List, [], ◌∷◌, ◌++◌, length, drop, take}
use Rattle.std.specs.List.{AllByRecursion}
use Rattle.std.specs.Int.{to_be_bytes, w32}
use Rattle.cell_base.specs.declared.shifts.Grant.{Grant}
use Rattle.entry_codec.specs.declared.encoder.TheConstants.{ENTRY_SIZE}
use Rattle.entry_codec.specs.Decoding.{grant_of}
use Rattle.entry_codec.specs.Records.{record_of}
use Rattle.journal_format.specs.declared.head.TheConstants.{TEXT_AT}
use Rattle.journal_format.specs.Blanks.{name, IsBlank}

-- what stands after the file's gate and before the gate of the first record
abbrev pub head : List ℕ → List ℕ
head text = name ++ to_be_bytes w32 (length text) ++ text

-- records after open gates
abbrev pub entries : List Grant → List ℕ
entries [] = []
entries (grant ∷ grants) = 1 ∷ record_of grant ++ entries grants

-- the record of the grant is read as that grant
abbrev pub IsReadAgain : Grant → Type 0
IsReadAgain grant = grant_of (record_of grant) ≡ Some grant

-- an open gate, a head with this text, and open records of these grants
abbrev pub front : List ℕ → List Grant → List ℕ
front text grants = 1 ∷ head text ++ entries grants

-- how many bytes that are: where the first closed gate stands
abbrev pub gate_of : List ℕ → List Grant → ℕ
gate_of text grants = TEXT_AT + length text + ENTRY_SIZE * length grants

-- A journal of the text and the grants: after them a gate is closed, and what follows means nothing.
pub record IsJournal (file text : List ℕ) (grants : List Grant) : Type 0 where
  pub size : length text < 2 ^ 32
  pub each : AllByRecursion IsReadAgain grants
  pub gate : ℕ
  pub closed : gate ≢ 1
  pub later : List ℕ
  pub split : file ≡ front text grants ++ gate ∷ later

-- the file is blank and there are no grants, or it is a journal of them
abbrev pub StandsFor : List ℕ → List ℕ → List Grant → Type 0
StandsFor file text grants = (IsBlank file × (grants ≡ [])) ⊎ IsJournal file text grants

-- the file stands for these grants, and a prefix of those since
abbrev pub StandsForPrefix : List ℕ → List Grant → List Grant → List ℕ → Type 0
StandsForPrefix text opening since file = (n : ℕ) × StandsFor file text (opening ++ take n since)

-- without one grant more, or with it
abbrev pub IsBeforeOrAfter : List ℕ → List Grant → Grant → List ℕ → Type 0
IsBeforeOrAfter text grants grant file = StandsFor file text grants ⊎ StandsFor file text (grants ++ grant ∷ [])

-- without these grants more, or with all of them
abbrev pub IsBeforeOrAfterAll : List ℕ → List Grant → List Grant → List ℕ → Type 0
IsBeforeOrAfterAll text grants more file = StandsFor file text grants ⊎ StandsFor file text (grants ++ more)

-- the same of journals
abbrev pub WithOrWithout : List ℕ → List Grant → List Grant → List ℕ → Type 0
WithOrWithout text grants more file = IsJournal file text grants ⊎ IsJournal file text (grants ++ more)

-- records after open gates, and a closed gate after the last of them
abbrev pub group_bytes : List Grant → List ℕ
group_bytes more = entries more ++ 0 ∷ []

-- a journal whose closed gate stands there, and the bytes of some grants more
pub record HoldsRecords (file text : List ℕ) (grants : List Grant) (gate : ℕ) (more : List Grant) (bytes : List ℕ) : Type 0 where
  pub journal : IsJournal file text grants
  pub gate_is : gate ≡ gate_of text grants
  pub bytes_are : bytes ≡ group_bytes more
  pub some : 0 < length more
  pub are_read : AllByRecursion IsReadAgain more

-- a journal with the records of some grants more after its closed gate: the gates between them are open, and the one after them is closed
pub record Staged (text : List ℕ) (grants more : List Grant) (file : List ℕ) : Type 0 where
  pub size : length text < 2 ^ 32
  pub each : AllByRecursion IsReadAgain grants
  pub some : 0 < length more
  pub are_read : AllByRecursion IsReadAgain more
  pub gate : ℕ
  pub closed : gate ≢ 1
  pub later : List ℕ
  pub split : file ≡ front text grants ++ gate ∷ (drop 1 (group_bytes more) ++ later)

-- a head after the file's gate, which is closed
pub record Sealed (text file : List ℕ) : Type 0 where
  pub size : length text < 2 ^ 32
  pub gate : ℕ
  pub closed : gate ≢ 1
  pub later : List ℕ
  pub split : file ≡ gate ∷ head text ++ 0 ∷ later
