-- What each call makes of the bytes that a disk reads as.
use Rattle.std.specs.Prelude.{ℕ, ◌+◌, List, [], ◌∷◌, ◌++◌, length, nat_le, if◌then◌else◌}
use Rattle.outside_io.specs.Disk.{overwritten}
use Rattle.journal_format.specs.Journals.{head}

-- of a file of at most one byte that byte is written as 0; a longer one stays
abbrev pub after_clear : List ℕ → List ℕ
after_clear file = if nat_le (length file) 1 then overwritten file 0 (0 ∷ []) else file

-- After the file's gate the head and a closed gate, and then the file's gate open. Where the name is there already, it is left.
abbrev pub after_create : List ℕ → List ℕ → List ℕ
after_create file text = overwritten (overwritten file 1 (head text ++ 0 ∷ [])) 0 (1 ∷ [])

-- after the gate at that offset these bytes, and then that gate open
abbrev pub after_append : List ℕ → ℕ → List ℕ → List ℕ
after_append file gate bytes = overwritten (overwritten file (gate + 1) bytes) gate (1 ∷ [])
