-- How `solo` is written, and the walk of words that are not written so.
use Rattle.std.specs.Prelude.{◌≡◌, ℕ, List, [], ◌∷◌, ◌++◌, codes}
use Rattle.step_text.specs.Words.{joined}
use Rattle.cell_walks.specs.Outcomes.{printed}
use Rattle.cell_walks.specs.Walks.{Answers, Walk}
use Rattle.cell_walks.specs.declared.status.Status.TheVariants.{NoCommand}

-- how it is written
abbrev pub solo_words : List ℕ → List ℕ → List (List ℕ)
solo_words cell shift = codes "solo" ∷ cell ∷ shift ∷ []

-- the same as the line that is printed for other words
abbrev pub usage_text : List ℕ
usage_text = codes "usage: " ++ joined (solo_words (codes "CELL") (codes "SHIFT")) ++ 10 ∷ []

-- that line is printed, status 2
abbrev pub no_command : Walk
no_command = Answers λ input outcome. outcome ≡ printed NoCommand (usage_text ∷ [])
