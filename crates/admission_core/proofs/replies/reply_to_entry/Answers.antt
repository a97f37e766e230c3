-- A job that is not there, and the neighborhoods of the new part's mask.
use Rattle.std.proofs.Common.{◌≡◌, false, refl, ◌++◌, ◌∷◌, [], ap, sym, ◌∙◌, subst}
use Rattle.std.specs.Option.{option_map}
use Rattle.cell_base.specs.Policy.{is_loaded}
use Rattle.cell_base.specs.Stages.{stage_of}
use Rattle.neighborhood_counts.specs.Counts.{IsMaskOf, first_full}
use Rattle.admission_core.specs.Replies.{reply_at}
use Rattle.part_table.specs.declared.found.Found.{Found}
use Rattle.part_table.proofs.Finding.{not_found}
use Rattle.admission_core.proofs.Moving.{part_known, admit_reply}
use Rattle.admission_core.proofs.Saturating.{mask_is_of, entry_over}
use Rattle.admission_core.proofs.replies.reply_to_entry.Goals as goal

pub returns-in-Some : goal.returns-in-Some
returns-in-Some c =
    let known =
    part_known c.args.table.now c.args.tally.now.parts.parts c.args.part.job c.in-Some.field-0.part c.requires.sound.admitted
    (sym c.find.ensures.part ∙ ap (option_map (λ (found : Found). found.part)) c.in-Some.is) in
    rw known.loaded refl

pub reply_at-requires-clause-mask : goal.reply_at-requires-clause-mask
reply_at-requires-clause-mask c =
    let sound = c.requires.sound in
    subst (IsMaskOf c.args.tally.now.counts) (sym c.mask.ensures)
    (mask_is_of c.args.table.now sound.fits c.args.tally.now.counts c.args.tally.now.parts.parts sound.tallied.counts
    (stage_of c.args.part))

pub returns-in-None : goal.returns-in-None
returns-in-None c =
    let cell = c.args.table.now in
    let parts = c.args.tally.now.parts.parts in
    let sound = c.requires.sound in
    let absent : is_loaded parts c.args.part.job ≡ false =
    not_found parts c.args.part.job (sym c.find.ensures.part ∙ ap (option_map (λ (found : Found). found.part)) c.in-None.is) in
    rw absent
    (c.reply_at.ensures
    ∙ ap (λ mask. reply_at cell parts (first_full c.args.tally.now.counts mask)) c.mask.ensures
    ∙ ap (reply_at cell parts)
    (entry_over cell sound.fits c.args.tally.now.counts parts sound.tallied.counts c.args.part sound.admitted.within)
    ∙ sym (admit_reply cell parts (parts ++ c.args.part ∷ [])))
