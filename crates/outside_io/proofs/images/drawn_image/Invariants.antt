-- The bytes so far are drawn, by as many draws as there are written offsets among theirs.
use Rattle.std.proofs.Common.{◌≡◌, ◌+◌, map}
use Rattle.std.specs.List.{range_with_len}
use Rattle.outside_io.specs.Draws.{number_after}
use Rattle.outside_io.specs.DrawnImages.{drawn_byte, written_below}
use Rattle.outside_io.specs.Replayed.{state_of}
use Rattle.outside_io.proofs.images.drawn_image.Given as goal

abbrev pub invariant-loop-k : goal.invariant-loop-k
invariant-loop-k l = record {
  bytes : l.image.items ≡ map (drawn_byte (state_of l.state) l.number) (range_with_len 0 l.k);
  number : l.x ≡ number_after l.number (1 + written_below (state_of l.state).written l.k);
}
