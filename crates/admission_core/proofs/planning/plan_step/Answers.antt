-- The part whose step comes next stands at a stage.
use Rattle.std.proofs.Common.{ap, sym, ◌∙◌}
use Rattle.std.specs.Option.{option_map}
use Rattle.part_table.specs.declared.found.Found.{Found}
use Rattle.admission_core.proofs.Moving.{next_known}
use Rattle.admission_core.proofs.planning.plan_step.Goals as goal

pub step_of-requires : goal.step_of-requires
step_of-requires c =
    (next_known c.args.table.now c.args.tally.now.parts.parts c.in-Some.found.part c.requires.sound.admitted
    (sym c.next_part.ensures ∙ ap (option_map (λ (found : Found). found.part)) c.in-Some.is)).stage
