-- Where the reading of a file stands.
use Rattle.std.specs.Prelude.{◌≡◌, ℕ, ◌+◌, ◌≤◌, min, Option, Some, None, IfSome, List, ◌++◌, length, take, drop}
use Rattle.journal_format.specs.declared.head.TheConstants.{TEXT_AT}
use Rattle.shift_recovery.specs.declared.pieces.TheConstants.{PIECE}
use Rattle.shift_recovery.specs.declared.texts.Compared.{Compared}
use Rattle.shift_recovery.specs.declared.texts.Compared.TheVariants.{Differs, Same}
use Rattle.journal_format.specs.Readings.{first_difference}

-- the first bytes of a file of len bytes, as many as one piece has, where the disk tells it
pub record IsFirstPiece (told : Option (List ℕ)) (len : ℕ) (bytes : List ℕ) : Type 0 where
  pub size : length bytes ≡ min PIECE len
  pub shows : IfSome told (λ file. (length file ≡ len) × (file ≡ bytes ++ drop (length bytes) file))

-- the kept bytes from `used` on begin at an offset of a file of len bytes
pub record BeginsAt (offset len at used : ℕ) (kept : List ℕ) : Type 0 where
  pub used_within : used ≤ length kept
  pub begins : offset + length kept ≡ at + used
  pub read_within : at ≤ len

-- and they are the file's, where the disk tells it
abbrev pub AreOfFile : Option (List ℕ) → ℕ → ℕ → ℕ → ℕ → List ℕ → Type 0
AreOfFile told offset len at used kept = IfSome told (λ file. (length file ≡ len) × (drop offset file ≡ drop used kept ++ drop at file))

-- the first difference of the stored text, or a window after it
abbrev pub IsTextEnd : {D : Type 0} → (D → Option (List ℕ)) → D → ℕ → ℕ → List ℕ → Compared → Type 0
IsTextEnd reads_as disk len size text (Differs at) =
    IfSome (reads_as disk) (λ file. first_difference 0 (take size (drop TEXT_AT file)) text ≡ Some at)
IsTextEnd reads_as disk len size text (Same window) =
    IfSome (reads_as disk) (λ file. first_difference 0 (take size (drop TEXT_AT file)) text ≡ None)
    × BeginsAt (TEXT_AT + size) len window.at window.used window.kept.items
    × AreOfFile (reads_as disk) (TEXT_AT + size) len window.at window.used window.kept.items
