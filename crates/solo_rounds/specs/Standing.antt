-- Where the sessions of a shift stand between two asks.
use Rattle.std.specs.Prelude.{ℕ, List}
use Rattle.cell_base.specs.Scripts.{Progress}

-- how far each session has come, that of number k + 1 at place k; and the place of the session whose turn is next, where it goes on
pub record Standing : Type 0 where
  pub progress : List Progress
  pub next : ℕ
