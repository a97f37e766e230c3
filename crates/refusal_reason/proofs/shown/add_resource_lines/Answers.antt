-- The line of one member more stands behind those before it.
use Rattle.std.proofs.Common.{ap, ap₂, append_assoc, arith, sym, take, List, ℕ, ◌++◌, ◌∙◌}
use Rattle.std.specs.List.{concat}
use Rattle.refusal_reason.specs.Shown.{member_lines, resource_line}
use Rattle.refusal_reason.proofs.Texts.{next_member}
use Rattle.refusal_reason.proofs.shown.add_resource_lines.Goals as goal

pub loop-stage-preserved : goal.loop-stage-preserved
loop-stage-preserved c =
    let table = c.args.table.now in
    let head = c.args.text.now ++ resource_line table c.args.r.0 in
    let so_far = concat (member_lines table (take c.loop-stage.stage-index c.args.members.now)) in
    c.in_ok-try_append-2.ensures.ok
    ∙ ap₂ ◌++◌ c.loop-stage.invariant (c.bytes-in-loop-stage.ensures.value ∙ c.write_stage.ensures)
    ∙ append_assoc head so_far _
    ∙ ap (λ (more : List ℕ). head ++ more)
    (sym (next_member table c.args.members.now c.loop-stage.stage-index _ (omega (arith, c.loop-stage-test.true))))
