-- The places after the places so far.
use Rattle.std.proofs.Common.{◌≡◌, map}
use Rattle.std.specs.List.{range_with_len}
use Rattle.cell_base.specs.Successors.{place_after}
use Rattle.cell_make.proofs.cells.each_goes_on.Given as goal

abbrev pub invariant-loop-place : goal.invariant-loop-place
invariant-loop-place l = l.next ≡ map (place_after l.places) (range_with_len 0 l.place)
