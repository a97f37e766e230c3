-- Where values stand that leave mostly in turn.
use Rattle.std.specs.Prelude.{ℕ, ◌+◌, ◌*◌, ◌≤◌}

-- There are at most as many values as there is room for, and at most as many places that have been left; all of these are there already.
pub record HasRoom (places gone room capacity : ℕ) : Type 0 where
  pub behind : gone ≤ places
  pub gone_few : gone ≤ room
  pub few : places ≤ gone + room
  pub reserved : 2 * room ≤ capacity
