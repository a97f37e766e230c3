-- Draws from a number: a linear congruential generator modulo 2^64 with the multiplier and the increment of D. E. Knuth's MMIX.
use Rattle.std.specs.Prelude.{ℕ, zero, suc, ◌+◌, ◌*◌, ◌/◌, ◌%◌, ◌^◌}

-- the number that follows
unfoldable pub next_number : ℕ → ℕ
next_number x = (x * 6364136223846793005 + 1442695040888963407) % 2 ^ 64

-- the number that stands so many draws later
unfoldable pub number_after : ℕ → ℕ → ℕ
number_after x zero = x
number_after x (suc n) = next_number (number_after x n)

-- the draw from a number: one of the first k numbers, by the upper bits
abbrev pub draw : ℕ → ℕ → ℕ
draw x k = next_number x / 2 ^ 33 % k
