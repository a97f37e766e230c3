-- The first grant of a group.
use Rattle.std.specs.Prelude.{ℕ, List, Option, Some, None}

-- where its answer stands among the answers, and the line that says that it halted
pub record FirstGrant : Type 0 where
  pub at : ℕ
  pub line : List ℕ

-- the first grant after one more, whose answer stands here and which has this line
abbrev pub first_with : Option FirstGrant → ℕ → List ℕ → Option FirstGrant
first_with (Some first) at line = Some first
first_with None at line = Some (record { at = at; line = line })
