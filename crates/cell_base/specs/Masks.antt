-- Masks of 64 bits: bit r stands for resource r.
use Rattle.std.specs.Prelude.{ℕ, ◌==◌, Bool, bit_and}
use Rattle.std.specs.Int.{bit_at, bit_not, w64}

-- bit r is set
abbrev pub has_bit : ℕ → ℕ → Bool
has_bit mask r = bit_at mask r == 1

-- the bits of the first mask that the second one does not have
abbrev pub bits_only_of : ℕ → ℕ → ℕ
bits_only_of mask other = bit_and mask (bit_not w64 other)
