-- Files that hold no journal.
use Rattle.std.specs.Prelude.{◌≡◌, ◌≢◌, ℕ, ◌≤◌, Bool, true, false, List, [], ◌∷◌, length, take, codes}
use Rattle.journal_format.specs.declared.blank.BlankForm.{BlankForm}
use Rattle.journal_format.specs.declared.blank.BlankForm.TheVariants.{Short, Shut, Named}

-- the name that stands after a file's gate
abbrev pub name : List ℕ
name = codes "RUNCELL1"

-- at most one byte; or a gate that is 0; or one that isn't open, and the name after it
abbrev pub HasForm : BlankForm → List ℕ → Type 0
HasForm Short file = length file ≤ 1
HasForm Shut file = take 1 file ≡ 0 ∷ []
HasForm Named file = (gate : ℕ) × (gate ≢ 1) × (take 9 file ≡ gate ∷ name)

-- the file holds no journal
abbrev pub IsBlank : List ℕ → Type 0
IsBlank file = (form : BlankForm) × HasForm form file

-- the forms in which the first byte is there, with the name or without
abbrev pub HasClearForm : Bool → List ℕ → Type 0
HasClearForm true file = HasForm Named file
HasClearForm false file = HasForm Shut file
