-- Grants that no crash takes back.
use Rattle.std.specs.Prelude.{ℕ, List, ◌++◌}
use Rattle.cell_base.specs.declared.shifts.Grant.{Grant}
use Rattle.journal_format.specs.Journals.{StandsFor}
use Rattle.durable_cell.specs.Acknowledged.{LeftOnly}

-- the file stands for these grants, and maybe for more after them
abbrev pub HasThese : List ℕ → List Grant → List ℕ → Type 0
HasThese text grants file = (more : List Grant) × StandsFor file text (grants ++ more)

-- each image at each moment since then has these grants
abbrev pub HasSince : {D : Type 0} → (D → ℕ) → (D → ℕ → List ℕ → Type 0) → D → ℕ → List ℕ → List Grant → Type 0
HasSince moment left_since disk then text grants = LeftOnly moment left_since disk then (HasThese text grants)
