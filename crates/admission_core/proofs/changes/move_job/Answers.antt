-- The part of the job.
use Rattle.std.proofs.Common.{ap, sym, ◌∙◌}
use Rattle.std.specs.Option.{option_map}
use Rattle.part_table.specs.declared.found.Found.{Found}
use Rattle.part_table.proofs.Finding.{found_of_job}
use Rattle.admission_core.proofs.changes.move_job.Goals as goal

pub move_part-requires-clause-found : goal.move_part-requires-clause-found
move_part-requires-clause-found c =
    found_of_job c.args.tally.now.parts.parts c.args.job c.in-Some.found.part
    (sym c.find.ensures.part ∙ ap (option_map (λ (found : Found). found.part)) c.in-Some.is)
