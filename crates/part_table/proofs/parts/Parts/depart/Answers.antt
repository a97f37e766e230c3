-- The part that was found is that of the job.
use Rattle.std.proofs.Common.{sym, ap, ◌∙◌}
use Rattle.std.proofs.lemmas.Bool.{false≢true}
use Rattle.cell_base.specs.declared.requests.JobId.{JobId}
use Rattle.cell_base.specs.Outcomes.{without}
use Rattle.policy_laws.proofs.Parts.{part_of-found}
use Rattle.part_table.proofs.Finding.{found_of_job, not_found}
use Rattle.part_table.proofs.parts.Parts.depart.Goals as goal

pub depart_found-requires : goal.depart_found-requires
depart_found-requires c =
    found_of_job c.args.self.now.parts c.args.job c.in-Some.found.part (sym c.in-Some.ensures.part)

pub returns-in-Some-clause-parts : goal.returns-in-Some-clause-parts
returns-in-Some-clause-parts c =
    c.depart_found.ensures.parts
    ∙ ap (λ (job : JobId). without c.args.self.now.parts job)
    (part_of-found c.args.self.now.parts c.args.job c.in-Some.found.part (sym c.in-Some.ensures.part)).1

pub returns-in_default-clause-parts : goal.returns-in_default-clause-parts
returns-in_default-clause-parts c =
    let absent = rw c.in_default.is at c.find.ensures.part in
    absurd (false≢true (sym (not_found c.args.self.now.parts c.args.job (sym absent)) ∙ c.requires))

pub returns-in_default-clause-spare : goal.returns-in_default-clause-spare
returns-in_default-clause-spare c =
    let absent = rw c.in_default.is at c.find.ensures.part in
    absurd (false≢true (sym (not_found c.args.self.now.parts c.args.job (sym absent)) ∙ c.requires))
