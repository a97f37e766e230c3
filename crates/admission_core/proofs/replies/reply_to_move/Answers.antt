-- The tests before the last one did not refuse, and the bits of the next stage alone are first full where the next state is over.
use Rattle.std.proofs.Common.{◌≡◌, false, not, ◌++◌, ◌∷◌, [], rules, ap, ap₂, sym, ◌∙◌, subst}
use Rattle.cell_base.specs.declared.requests.Part.{Part}
use Rattle.cell_base.specs.Masks.{bits_only_of}
use Rattle.cell_base.specs.Stages.{IsStage, is_last, stage_of}
use Rattle.cell_base.specs.Neighborhoods.{mask_of}
use Rattle.cell_base.specs.Outcomes.{without, admit}
use Rattle.neighborhood_counts.specs.Counts.{IsMaskOf, first_full}
use Rattle.admission_core.specs.Replies.{reply_at}
use Rattle.admission_core.proofs.Moving.{part_known, admit_reply}
use Rattle.admission_core.proofs.Saturating.{only_is_of, move_over}
use Rattle.admission_core.proofs.replies.reply_to_move.Goals as goal

pub is_last-requires : goal.is_last-requires
is_last-requires c =
    (part_known c.args.table.now c.args.tally.now.parts.parts c.args.part.job c.args.part c.requires.sound.admitted c.requires.found).stage

pub next_place-requires : goal.next_place-requires
next_place-requires c =
    (part_known c.args.table.now c.args.tally.now.parts.parts c.args.part.job c.args.part c.requires.sound.admitted c.requires.found).stage

pub mask-requires : goal.mask-requires
mask-requires c =
    subst (λ (part : Part). IsStage c.args.table.now (stage_of part)) (sym c.arrival-next.ensures) c.in-Some.ensures.within

pub reply_at-requires-clause-mask : goal.reply_at-requires-clause-mask
reply_at-requires-clause-mask c =
    let cell = c.args.table.now in
    let sound = c.requires.sound in
    let held = c.args.tally.now.counts in
    subst (λ mask. IsMaskOf held (bits_only_of mask c.mask-in-Some.result)) (sym c.mask.ensures)
    (subst (λ mask. IsMaskOf held (bits_only_of (mask_of cell (stage_of c.arrival-next.result)) mask)) (sym c.mask-in-Some.ensures)
    (only_is_of cell sound.fits held c.args.tally.now.parts.parts sound.tallied.counts (stage_of c.arrival-next.result)
    (stage_of c.args.part)))

pub returns-in-Some : goal.returns-in-Some
returns-in-Some c =
    let cell = c.args.table.now in
    let parts = c.args.tally.now.parts.parts in
    let held = c.args.tally.now.counts in
    let sound = c.requires.sound in
    let part = c.args.part in
    let next = c.arrival-next.result in
    let known = part_known cell parts part.job part sound.admitted c.requires.found in
    let undone : not part.done ≡ false = search rules in
    let last : is_last cell (stage_of part) ≡ false = sym c.is_last.ensures ∙ c.if-is_last.false in
    rw (undone, last, ← c.in-Some.ensures.successor)
    (c.reply_at.ensures
    ∙ ap₂ (λ to from. reply_at cell parts (first_full held (bits_only_of to from))) c.mask.ensures c.mask-in-Some.ensures
    ∙ ap (reply_at cell parts)
    (move_over cell sound.fits held parts sound.tallied.counts part next sound.admitted.state.distinct known.stands sound.admitted.within)
    ∙ sym (admit_reply cell parts (without parts part.job ++ next ∷ []))
    ∙ ap (λ (p : Part). (admit cell parts (without parts part.job ++ p ∷ [])).0) c.arrival-next.ensures)
