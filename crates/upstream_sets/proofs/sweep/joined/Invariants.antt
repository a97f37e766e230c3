-- The mask has what the successors so far lead to.
use Rattle.std.proofs.Common.{◌≡◌, ℕ, take}
use Rattle.std.specs.List.{list_any}
use Rattle.cell_base.specs.Masks.{has_bit}
use Rattle.cell_base.specs.Stages.{successors}
use Rattle.cell_base.specs.Numbers.{stage_numbered}
use Rattle.cell_base.specs.Neighborhoods.{leads}
use Rattle.upstream_sets.proofs.sweep.joined.Given as goal

abbrev pub invariant-loop-branch : goal.invariant-loop-branch
invariant-loop-branch l =
    (r : ℕ) → has_bit l.mask r ≡ list_any (λ t. leads l.table t r) (take l.branch (successors l.table (stage_numbered l.table l.stage.0)))
