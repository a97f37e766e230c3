-- A part of the state stands at a stage, and there is room for it where it goes.
use Rattle.std.proofs.Common.{◌≡◌, ◌<◌, Some, length, arith, ap, sym, ◌∙◌}
use Rattle.std.proofs.lemmas.Grind.{common_steps}
use Rattle.cell_base.specs.Stages.{IsStage, stage_of}
use Rattle.cell_base.specs.Policy.{is_of_job}
use Rattle.cell_base.specs.Outcomes.{part_of, without, arrival}
use Rattle.cell_base.specs.Fits.{units_of}
use Rattle.policy_laws.proofs.Lists.{All-found}
use Rattle.policy_laws.proofs.Parts.{part_of-found}
use Rattle.policy_laws.proofs.Room.{room_for}
use Rattle.policy_laws.proofs.Granting.{move-granted}
use Rattle.plain_recount.proofs.changes.move_job.Goals as goal

pub next_place-requires : goal.next_place-requires
next_place-requires c =
    let items = c.deref.ensures.value in
    let found : part_of c.args.parts.now.items c.args.job ≡ Some c.in-Some.part =
    ap (λ parts. part_of parts c.args.job) (sym items) ∙ sym (c.part_at.ensures c.args.job (rw items c.requires.found)) ∙ c.in-Some.is in
    All-found (λ part. IsStage c.args.table.now (stage_of part)) (is_of_job c.args.job) c.args.parts.now.items
    c.in-Some.part c.requires.sound.admitted.state.standing found

pub push_reserved-requires : goal.push_reserved-requires
push_reserved-requires c =
    let items = c.deref.ensures.value in
    let cell = c.args.table.now in
    let parts = c.args.parts.now.items in
    let part = c.in-Some.part in
    let next = arrival cell part.job part.kind c.in-Some-next_place.place in
    let found : part_of parts c.args.job ≡ Some part =
    ap (λ parts. part_of parts c.args.job) (sym items) ∙ sym (c.part_at.ensures c.args.job (rw items c.requires.found)) ∙ c.in-Some.is in
    let room : length (without parts part.job) < units_of cell.resources =
    room_for cell c.requires.sound.fits parts next c.requires.sound.admitted c.in-Some-next_place.ensures.within
    (move-granted cell parts c.args.job c.args.branch part
    (record { kind = part.kind.0; place = c.in-Some-next_place.place }) c.requires.granted found
    (sym c.in-Some-next_place.ensures.successor)) in
    let others : c.take_out.new.parts.items ≡ without parts part.job =
    c.take_out.ensures.items c.args.job c.requires.found ∙ ap (without parts) (sym (part_of-found parts c.args.job part found).1) in
    omega (arith, c.take_out.new.parts.ok.0, ap length others, c.take_out.ensures.room, c.requires.sound.enough, room)

pub returns-in-Some-next_place-clause-parts : goal.returns-in-Some-next_place-clause-parts
returns-in-Some-next_place-clause-parts c =
    let items = c.deref.ensures.value in
    let parts = c.args.parts.now.items in
    let part = c.in-Some.part in
    let found : part_of parts c.args.job ≡ Some part =
    ap (λ parts. part_of parts c.args.job) (sym items) ∙ sym (c.part_at.ensures c.args.job (rw items c.requires.found)) ∙ c.in-Some.is in
    let others : c.take_out.new.parts.items ≡ without parts part.job =
    c.take_out.ensures.items c.args.job c.requires.found ∙ ap (without parts) (sym (part_of-found parts c.args.job part found).1) in
    let granted = rw found at c.requires.granted in
    rw found (grind (arith, common_steps, others, granted))
