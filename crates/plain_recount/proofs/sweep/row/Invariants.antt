-- The row has the places so far.
use Rattle.std.proofs.Common.{◌≡◌, map}
use Rattle.std.specs.List.{range_with_len}
use Rattle.cell_base.specs.Stages.{stage}
use Rattle.cell_base.specs.Neighborhoods.{mask_of}
use Rattle.plain_recount.proofs.sweep.row.Given as goal

abbrev pub invariant-loop-place : goal.invariant-loop-place
invariant-loop-place l = l.row ≡ map (λ place. mask_of l.cell (stage l.fn.kind.0 place)) (range_with_len 0 l.place)
