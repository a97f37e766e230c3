-- What is kept of each session.
use Rattle.std.specs.Prelude.{ℕ, List, Option}
use Rattle.cell_base.specs.declared.requests.Request.{Request}

-- for each number of a session how many grants it has, and the request of the last of them
pub record SessionTable : Type 0 where
  pub counts : List ℕ
  pub last : List (Option Request)
