-- The names: a letter and a number.
use Rattle.std.specs.Prelude.{ℕ, ◌+◌, ◌-◌, nat_lt, if◌then◌else◌, List, [], ◌∷◌}

-- a letter and a number below 20, as `R0` and `R15`; 48 is the digit 0
unfoldable pub numbered_name : ℕ → ℕ → List ℕ
numbered_name letter n = if nat_lt n 10 then letter ∷ (48 + n) ∷ [] else letter ∷ 49 ∷ (48 + (n - 10)) ∷ []
