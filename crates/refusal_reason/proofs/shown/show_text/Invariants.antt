-- The text is that of the resources so far.
use Rattle.std.proofs.Common.{◌≡◌}
use Rattle.std.specs.List.{concat, flat_map, range_with_len}
use Rattle.refusal_reason.specs.Shown.{resource_lines}
use Rattle.refusal_reason.proofs.shown.show_text.Given as goal

abbrev pub invariant-loop-r : goal.invariant-loop-r
invariant-loop-r l = l.text ≡ concat (flat_map (resource_lines l.core.cell) (range_with_len 0 l.r))
