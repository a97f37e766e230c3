-- The numbers that stand in the bytes of a record.
use Rattle.std.specs.Prelude.{nat_eq}
use Rattle.std.proofs.Common.{◌≡◌, ℕ, ◌<◌, ◌^◌, Bool, true, false, ◌++◌, List, refl}
use Rattle.std.specs.Int.{to_be_bytes, w16, w32}
use Rattle.std.proofs.lemmas.Nat.{from_be_bytes-to_be_bytes_2, from_be_bytes-to_be_bytes_4}
use Rattle.entry_codec.specs.Decoding.{number_2, number_4}
use Rattle.entry_codec.specs.Records.{fields, flag_of}

module _ (kind flag session shift job : ℕ) where
  pub session_in : (argument : List ℕ) → session < 2 ^ 16 → number_2 (fields kind flag session shift job argument) 2 ≡ session
  session_in argument lt = from_be_bytes-to_be_bytes_2 session lt

  pub shift_in : (argument : List ℕ) → shift < 2 ^ 32 → number_4 (fields kind flag session shift job argument) 4 ≡ shift
  shift_in argument lt = from_be_bytes-to_be_bytes_4 shift lt

  pub job_in : (argument : List ℕ) → job < 2 ^ 32 → number_4 (fields kind flag session shift job argument) 8 ≡ job
  job_in argument lt = from_be_bytes-to_be_bytes_4 job lt

  -- an argument that is one number
  pub number_in : (n : ℕ) → n < 2 ^ 16 → number_2 (fields kind flag session shift job (to_be_bytes w32 n)) 14 ≡ n
  number_in n lt = from_be_bytes-to_be_bytes_2 n lt

  -- an argument that is two
  pub high_in : (high low : ℕ) → high < 2 ^ 16
      → number_2 (fields kind flag session shift job (to_be_bytes w16 high ++ to_be_bytes w16 low)) 12 ≡ high
  high_in high low lt = from_be_bytes-to_be_bytes_2 high lt

  pub low_in : (high low : ℕ) → low < 2 ^ 16
      → number_2 (fields kind flag session shift job (to_be_bytes w16 high ++ to_be_bytes w16 low)) 14 ≡ low
  low_in high low lt = from_be_bytes-to_be_bytes_2 low lt

pub done-flag_of : (done : Bool) → nat_eq (flag_of done) 1 ≡ done
done-flag_of true = refl
done-flag_of false = refl
