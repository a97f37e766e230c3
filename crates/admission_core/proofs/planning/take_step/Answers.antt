-- The part whose step comes next is that of its job, and the step is granted, as in every admitted state.
use Rattle.std.proofs.Common.{ap, sym, ◌∙◌}
use Rattle.std.specs.Option.{option_map}
use Rattle.part_table.specs.declared.found.Found.{Found}
use Rattle.policy_laws.proofs.Parts.{part_of-job}
use Rattle.admission_core.proofs.Moving.{next_known, next_advances}
use Rattle.admission_core.proofs.planning.take_step.Goals as goal

pub bring_on-requires-clause-found : goal.bring_on-requires-clause-found
bring_on-requires-clause-found c =
    let sound = c.requires.sound in
    let parts = c.args.tally.now.parts.parts in
    part_of-job parts c.in-Some.found.part sound.admitted.state.distinct
    (next_known c.args.table.now parts c.in-Some.found.part sound.admitted
    (sym c.next_part.ensures ∙ ap (option_map (λ (found : Found). found.part)) c.in-Some.is)).stands

pub bring_on-requires-clause-fits : goal.bring_on-requires-clause-fits
bring_on-requires-clause-fits c =
    (next_advances c.args.table.now c.args.tally.now.parts.parts c.in-Some.found.part c.requires.sound.fits c.requires.sound.admitted
    (sym c.next_part.ensures ∙ ap (option_map (λ (found : Found). found.part)) c.in-Some.is)).fits

pub bring_on-requires-clause-granted : goal.bring_on-requires-clause-granted
bring_on-requires-clause-granted c =
    (next_advances c.args.table.now c.args.tally.now.parts.parts c.in-Some.found.part c.requires.sound.fits c.requires.sound.admitted
    (sym c.next_part.ensures ∙ ap (option_map (λ (found : Found). found.part)) c.in-Some.is)).granted
