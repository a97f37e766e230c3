-- The rows of the stages so far.
use Rattle.std.proofs.Common.{◌≡◌, ℕ, length, Some, slice_get}
use Rattle.cell_base.specs.Numbers.{stage_numbered}
use Rattle.admission_core.specs.declared.stage_rows.Row.{Row}
use Rattle.admission_core.specs.Rows.{IsRowOf}
use Rattle.admission_core.proofs.stage_rows.rows.Given as goal

abbrev pub invariant-loop-stage : goal.invariant-loop-stage
invariant-loop-stage l = record {
  long : length l.rows.items ≡ l.stage;
  each : (n : ℕ) (row : Row) → slice_get l.rows.items n ≡ Some row → IsRowOf l.stages (stage_numbered l.stages n) row;
}
