-- The lines of the members so far stand behind that of the resource.
use Rattle.std.proofs.Common.{◌≡◌, ◌++◌, take}
use Rattle.std.specs.List.{concat}
use Rattle.refusal_reason.specs.Shown.{member_lines, resource_line}
use Rattle.refusal_reason.proofs.shown.add_resource_lines.Given as goal

abbrev pub invariant-loop-stage : goal.invariant-loop-stage
invariant-loop-stage l = l.text ≡ l.fn.text ++ resource_line l.table l.fn.r.0 ++ concat (member_lines l.table (take l.stage-index l.members))
