-- Laws of torn writes.
use Rattle.std.specs.Prelude.{ℕ, List}
use Rattle.std.proofs.Common.{refl, arith}
use Rattle.outside_io.specs.Disk.{Torn}

-- nothing written is one way of a torn write
pub torn_same : (at n : ℕ) (file : List ℕ) → Torn at n file file
torn_same at n file = record { before = refl; after = refl; no_shorter = omega arith; no_longer = omega arith }
