-- What a source tells of a run of calls.
use Rattle.std.specs.Prelude.{ℕ, List, Option}

-- the bytes given, before and after, whether it has come to its end, and the counts of faults
pub record SourceTold : Type 1 where
  pub given : Option (List ℕ)
  pub given_after : Option (List ℕ)
  pub ended : Type 0
  pub faults : ℕ
  pub faults_after : ℕ

-- the same, by the meanings of the source
abbrev pub source_told : {S : Type 0} → (S → Option (List ℕ)) → (S → Type 0) → (S → ℕ) → S → S → SourceTold
source_told given has_ended faults old new = record {
  given = given old;
  given_after = given new;
  ended = has_ended new;
  faults = faults old;
  faults_after = faults new;
}
