-- Up to the index there is no difference.
use Rattle.std.proofs.Common.{◌≡◌, ◌+◌, ◌≤◌, ℕ, List, ◌++◌, length, drop}
use Rattle.journal_format.specs.Readings.{first_difference}
use Rattle.shift_recovery.proofs.texts.difference.Given as goal

abbrev pub invariant-loop-index : goal.invariant-loop-index
invariant-loop-index l = record {
  within : l.index ≤ length l.text;
  same : (more : List ℕ) → first_difference l.from (l.bytes ++ more) l.text
      ≡ first_difference (l.from + l.index) (drop l.index l.bytes ++ more) (drop l.index l.text);
}
