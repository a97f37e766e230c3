-- One mask more.
use Rattle.std.proofs.Common.{◌≡◌, ◌+◌, Bool, true, false, cond, List, [], ◌∷◌, ◌++◌, ap, sym, ◌∙◌}
use Rattle.std.proofs.lemmas.List.{append-nil}
use Rattle.route_table.specs.declared.stage_table.StageNo.{StageNo}
use Rattle.upstream_sets.specs.Members.{with_bit_before}
use Rattle.upstream_sets.proofs.Stages.{of_number, with_bit_before-next}
use Rattle.upstream_sets.proofs.upstream.members.Goals as goal
use Rattle.upstream_sets.proofs.upstream.members.Goals.{then-has_bit+in_ok-try_push, else-has_bit}

pub loop-stage-preserved : goal.loop-stage-preserved
loop-stage-preserved c =
    let so_far = with_bit_before c.loop-stage.stage c.args.masks.now c.args.r.0 in
    let next : (b : Bool) → c.has_bit.result ≡ b
    → with_bit_before (c.loop-stage.stage + 1) c.args.masks.now c.args.r.0 ≡ so_far ++ cond b (of_number c.loop-stage.stage ∷ []) [] =
    λ b e. with_bit_before-next c.loop-stage.stage c.args.masks.now c.args.r.0
    ∙ ap (λ b. so_far ++ cond b (of_number c.loop-stage.stage ∷ []) []) (sym c.has_bit.ensures ∙ e) in
    elim c.if-has_bit.branch [
      | then-has_bit+in_ok-try_push w ↦
          w.list-is
          ∙ w.in_ok-try_push.ensures.ok
          ∙ ap (λ (list : List StageNo). list ++ of_number c.loop-stage.stage ∷ []) c.loop-stage.invariant
          ∙ sym (next true w.if-has_bit.true)
      | else-has_bit w ↦ w.list-is ∙ c.loop-stage.invariant ∙ sym (append-nil so_far) ∙ sym (next false w.if-has_bit.false)
    ]
