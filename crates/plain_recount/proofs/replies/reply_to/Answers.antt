-- What is found of the part of the request.
use Rattle.std.proofs.Common.{◌≡◌, Some, ap, sym, ◌∙◌, refl}
use Rattle.cell_base.specs.Stages.{IsStage, stage_of}
use Rattle.cell_base.specs.Policy.{is_of_job}
use Rattle.cell_base.specs.Outcomes.{part_of, is_waiting_on}
use Rattle.policy_laws.proofs.Lists.{All-found}
use Rattle.policy_laws.proofs.Parts.{part_of-found}
use Rattle.plain_recount.proofs.Found.{no_part, any_found, any_none}
use Rattle.plain_recount.proofs.replies.reply_to.Goals as goal

pub reply_to_move-requires-clause-stage : goal.reply_to_move-requires-clause-stage
reply_to_move-requires-clause-stage c =
    All-found (λ part. IsStage c.args.table.now (stage_of part)) (is_of_job c.in-Move.job) c.args.parts.now c.in-Some-part_at.part
    c.requires.admitted.state.standing
    (sym (c.part_at.ensures c.in-Move.job (rw c.in-Move.is at c.requires.found)) ∙ c.in-Some-part_at.is)

pub reply_to_move-requires-clause-present : goal.reply_to_move-requires-clause-present
reply_to_move-requires-clause-present c =
    let part = c.in-Some-part_at.part in
    let found : part_of c.args.parts.now c.in-Move.job ≡ Some part =
    sym (c.part_at.ensures c.in-Move.job (rw c.in-Move.is at c.requires.found)) ∙ c.in-Some-part_at.is in
    ap (part_of c.args.parts.now) (part_of-found c.args.parts.now c.in-Move.job part found).1 ∙ found

pub reply_to_unload-requires : goal.reply_to_unload-requires
reply_to_unload-requires c =
    All-found (λ part. IsStage c.args.table.now (stage_of part)) (is_of_job c.in-Unload.job) c.args.parts.now c.in-Some-part_at-2.part
    c.requires.admitted.state.standing
    (sym (c.part_at-in-Unload.ensures c.in-Unload.job (rw c.in-Unload.is at c.requires.found)) ∙ c.in-Some-part_at-2.is)

pub returns-in-None : goal.returns-in-None
returns-in-None c =
    let waiting = is_waiting_on c.args.table.now c.in-Process.machine.0 in
    let none = any_none waiting c.args.parts.now (sym (rw c.in-Process.is at c.requires.found) ∙ c.in-None.is) in
    rw (c.in-Process.is, none) refl

pub returns-in-Some : goal.returns-in-Some
returns-in-Some c =
    let waiting = is_waiting_on c.args.table.now c.in-Process.machine.0 in
    let some =
    any_found waiting c.args.parts.now c.in-Some.field-0 no_part (sym (rw c.in-Process.is at c.requires.found) ∙ c.in-Some.is) in
    rw (c.in-Process.is, some) refl
