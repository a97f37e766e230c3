-- What words decide: their number and the first of them.
use Rattle.std.specs.Prelude.{ℕ, List, [], ◌∷◌, Option, Some, None, codes, if◌then◌else◌}
use Rattle.std.specs.Str.{bytes_eq}
use Rattle.solo_program.specs.Words.{solo_words}
use Rattle.solo_program.specs.declared.asked.Asked.{Asked}

-- how what is asked for is written
abbrev pub asked_words : Asked → List (List ℕ)
asked_words asked = solo_words asked.cell.now asked.shift.now

-- the same of a verb and two words
abbrev pub asked_of_two : List ℕ → List ℕ → List ℕ → Option (List (List ℕ))
asked_of_two verb a b = if bytes_eq verb (codes "solo") then Some (solo_words a b) else None

-- what the words ask for
abbrev pub asked_of : List (List ℕ) → Option (List (List ℕ))
asked_of (verb ∷ a ∷ b ∷ []) = asked_of_two verb a b
asked_of words = None
