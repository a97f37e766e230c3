-- Runs of calls that only read.
use Rattle.std.specs.Prelude.{Option}
use Rattle.std.proofs.Common.{ℕ, List, refl, ◌∙◌}
use Rattle.outside_io.specs.Moments.{started, widened, followed}
use Rattle.journal_format.specs.Reads.{OnlyReads}

module _ {D : Type 0} (reads_as : D → Option (List ℕ)) (may_leave : D → List ℕ → Type 0) (moment : D → ℕ) (left_since : D → ℕ
    → List ℕ → Type 0) where
  pub reads_none : (disk : D) → ((c : List ℕ) → left_since disk (moment disk) c → may_leave disk c)
      → OnlyReads reads_as may_leave moment left_since disk disk
  reads_none disk only_now = record {
    same = refl;
    outcomes = λ c left. left;
    any_moment =
        started moment left_since disk (may_leave disk) only_now;
  }

  pub reads_then : (old mid new : D) → OnlyReads reads_as may_leave moment left_since old mid
      → OnlyReads reads_as may_leave moment left_since mid new → OnlyReads reads_as may_leave moment left_since old new
  reads_then old mid new first second = record {
    same = second.same ∙ first.same;
    outcomes = λ c left. first.outcomes c (second.outcomes c left);
    any_moment = followed moment left_since old mid new (may_leave old) first.any_moment
        (widened moment left_since mid new (may_leave mid) (may_leave old) second.any_moment first.outcomes);
  }
