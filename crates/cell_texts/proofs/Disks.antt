-- A disk to which nothing was done.
use Rattle.std.proofs.Common.{ℕ, List, Option, refl}
use Rattle.cell_walks.specs.DiskTold.{IsUntouched, disk_told}

module _ {D : Type 0} (reads_as : D → Option (List ℕ)) (may_leave : D → List ℕ → Type 0) (moment : D → ℕ)
    (left_since : D → ℕ → List ℕ → Type 0) (faults : D → ℕ) where
  pub untouched : (disk : D) → ((file : List ℕ) → left_since disk (moment disk) file → may_leave disk file)
      → IsUntouched (disk_told reads_as may_leave moment left_since faults disk disk)
  untouched disk only_now = record {
    reads = refl;
    counts = refl;
    leaves = (λ file left. left, λ file left. left);
    any_moment = only_now;
  }
