-- No span so far has the offset.
use Rattle.std.proofs.Common.{◌≡◌, drop}
use Rattle.outside_io.specs.Replayed.{spans_of}
use Rattle.outside_io.specs.Images.{is_written}
use Rattle.outside_io.proofs.replayed.any_has.Given as goal

abbrev pub invariant-loop-span : goal.invariant-loop-span
invariant-loop-span l = is_written (spans_of (drop l.span-index l.spans)) l.k ≡ is_written (spans_of l.spans) l.k
