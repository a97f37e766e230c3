-- The part of the job, or none.
use Rattle.std.proofs.Common.{ap, sym, ◌∙◌}
use Rattle.std.specs.Option.{option_map}
use Rattle.cell_base.specs.Outcomes.{without}
use Rattle.part_table.specs.declared.found.Found.{Found}
use Rattle.policy_laws.proofs.Granting.{without-absent}
use Rattle.policy_laws.proofs.Parts.{part_of-found}
use Rattle.part_table.proofs.Finding.{found_of_job, not_found}
use Rattle.admission_core.proofs.Moving.{none_left}
use Rattle.admission_core.proofs.changes.leave.Goals as goal

pub send_out-requires-clause-found : goal.send_out-requires-clause-found
send_out-requires-clause-found c =
    found_of_job c.args.tally.now.parts.parts c.args.job c.in-Some.found.part
    (sym c.find.ensures.part ∙ ap (option_map (λ (found : Found). found.part)) c.in-Some.is)

pub returns-in-Some-clause-parts : goal.returns-in-Some-clause-parts
returns-in-Some-clause-parts c =
    let parts = c.args.tally.now.parts.parts in
    c.send_out.ensures.parts
    ∙ ap (without parts) (part_of-found parts c.args.job c.in-Some.found.part
    (sym c.find.ensures.part ∙ ap (option_map (λ (found : Found). found.part)) c.in-Some.is)).1

pub returns-in_default-clause-parts : goal.returns-in_default-clause-parts
returns-in_default-clause-parts c =
    let parts = c.args.tally.now.parts.parts in
    sym (without-absent parts c.args.job
    (not_found parts c.args.job (sym c.find.ensures.part ∙ ap (option_map (λ (found : Found). found.part))
    (none_left c.find.result c.in_default.not-Some))))
