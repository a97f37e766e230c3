-- The image that a number chooses of those that a crash may leave: a length is drawn from it, and then each byte that was written.
use Rattle.std.specs.Prelude.{ℕ, zero, suc, ◌+◌, ◌-◌, List, map, length, slice_index, if◌then◌else◌}
use Rattle.std.specs.List.{range_with_len}
use Rattle.outside_io.specs.Draws.{number_after, draw}
use Rattle.outside_io.specs.Images.{Span, DiskState, is_written}

-- the length, between that at the last sync and the longest one
abbrev pub drawn_length : DiskState → ℕ → ℕ
drawn_length state number = length state.stable + draw number (state.longest - length state.stable + 1)

-- how many of the offsets below this one were written
abbrev pub written_below : List Span → ℕ → ℕ
written_below spans zero = 0
written_below spans (suc k) = if is_written spans k then written_below spans k + 1 else written_below spans k

-- The byte at an offset. One that was written is drawn, after the length and the written ones before it; any other is as it reads.
abbrev pub drawn_byte : DiskState → ℕ → ℕ → ℕ
drawn_byte state number k =
    if is_written state.written k then draw (number_after number (1 + written_below state.written k)) 256 else slice_index state.seen k

-- so many bytes of that length
unfoldable pub drawn_image : DiskState → ℕ → List ℕ
drawn_image state number = map (drawn_byte state number) (range_with_len 0 (drawn_length state number))
