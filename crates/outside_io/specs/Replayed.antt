-- The state that a replay of a disk's steps keeps.
use Rattle.std.specs.Prelude.{List, map}
use Rattle.outside_io.specs.Images.{Span, DiskState}
use Rattle.outside_io.specs.declared.replayed.Replayed.{Replayed}
use Rattle.outside_io.specs.declared.replayed.WrittenSpan.{WrittenSpan}

-- the span that a replay keeps of a write
abbrev pub span_of : WrittenSpan → Span
span_of span = record { at = span.at; size = span.size }

-- those of all writes
abbrev pub spans_of : List WrittenSpan → List Span
spans_of spans = map span_of spans

-- the state of a disk that has gone so far
abbrev pub state_of : Replayed → DiskState
state_of replayed = record {
  stable = replayed.stable.items;
  seen = replayed.seen.items;
  written = spans_of replayed.written.items;
  longest = replayed.longest;
}
