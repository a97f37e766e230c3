-- What is observed of the outside in one call of the program.
use Rattle.std.specs.Prelude.{ℕ, List, [], Option, Some, IfSome, IsSomeAnd, ⊤}
use Rattle.outside_io.specs.Files.{Names, IsThere}
use Rattle.outside_io.specs.Meanings.{FilesMeaning}
use Rattle.outside_io.specs.Source.{SourceTold}
use Rattle.cell_walks.specs.DiskTold.{DiskTold}

-- what each name holds, whether the files are sound, and their counts of faults before and after
pub record FilesTold : Type 1 where
  pub names : Option Names
  pub is_sound : Type 0
  pub faults : ℕ
  pub faults_after : ℕ

-- the same, by the meanings of the files
abbrev pub files_told : {F : Type 0} → (F → Option Names) → (F → Type 0) → (F → ℕ) → F → F → FilesTold
files_told holds is_sound faults old new =
    record { names = holds old; is_sound = is_sound old; faults = faults old; faults_after = faults new }

-- the same, by these meanings as one
abbrev pub files_seen : {F : Type 0} → FilesMeaning F → F → F → FilesTold
files_seen files old new = files_told files.holds files.is_sound files.faults old new

pub record Observed : Type 1 where
  pub files : FilesTold
  pub input : SourceTold
  pub disk : DiskTold

-- the input of a command that reads none
abbrev pub no_input : SourceTold
no_input = record { given = Some []; given_after = Some []; ended = ⊤; faults = 0; faults_after = 0 }

abbrev pub observed_with : FilesTold → SourceTold → DiskTold → Observed
observed_with files input disk = record { files = files; input = input; disk = disk }

-- the same, where no input is read
abbrev pub observed : FilesTold → DiskTold → Observed
observed files disk = observed_with files no_input disk

-- where a test looks: at a word of the command line, a file, or at nothing but what was read before
pub data Source : Type 0 where
  Word : (word : List ℕ) → Source
  File : (name : List ℕ) → Source
  Known : Source

-- this holds of the bytes of a name, as far as the files tell
abbrev pub ShowsFile : FilesTold → List ℕ → (List ℕ → Type 0) → Type 0
ShowsFile files name P = IfSome files.names (λ names. IsSomeAnd (names name) P)

-- this holds of the bytes there, as far as the files tell
abbrev pub HoldsOfBytes : FilesTold → Source → (List ℕ → Type 0) → Type 0
HoldsOfBytes files (Word word) P = P word
HoldsOfBytes files (File name) P = ShowsFile files name P
HoldsOfBytes files Known P = P []

-- the files tell the bytes there, and this holds of them
abbrev pub Tells : FilesTold → Source → (List ℕ → Type 0) → Type 0
Tells files (Word word) P = P word
Tells files (File name) P = IsSomeAnd files.names (λ names. IsSomeAnd (names name) P)
Tells files Known P = P []

-- how sure a statement is of the bytes of a test and of the disk at entry
pub record Evidence : Type 1 where
  pub at : Source → (List ℕ → Type 0) → Type 0
  pub on_disk : (List ℕ → Type 0) → Type 0

-- as far as the outside tells
abbrev pub shown : Observed → Evidence
shown seen = record { at = HoldsOfBytes seen.files; on_disk = IfSome seen.disk.reads }

-- for certain, since it tells
abbrev pub certain : Observed → Evidence
certain seen = record { at = Tells seen.files; on_disk = IsSomeAnd seen.disk.reads }

-- a file that is asked for is there
abbrev pub IsThereAt : FilesTold → Source → Type 0
IsThereAt files (File name) = IsThere files.names name
IsThereAt files (Word word) = ⊤
IsThereAt files Known = ⊤
