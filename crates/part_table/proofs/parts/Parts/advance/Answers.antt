-- The part that was found is that of the job.
use Rattle.std.proofs.Common.{sym, ap, ◌∙◌}
use Rattle.cell_base.specs.declared.requests.JobId.{JobId}
use Rattle.part_table.specs.Parts.{gone_on}
use Rattle.policy_laws.proofs.Parts.{part_of-found}
use Rattle.part_table.proofs.Finding.{found_of_job}
use Rattle.part_table.proofs.parts.Parts.advance.Goals as goal

pub advance_found-requires : goal.advance_found-requires
advance_found-requires c =
    found_of_job c.args.self.now.parts c.args.job c.in-Some.found.part (sym c.in-Some.ensures.part)

pub returns-in-Some-clause-parts : goal.returns-in-Some-clause-parts
returns-in-Some-clause-parts c =
    c.advance_found.ensures.parts
    ∙ ap (λ (job : JobId). gone_on c.args.self.now.parts job c.args.place c.args.done)
    (part_of-found c.args.self.now.parts c.args.job c.in-Some.found.part (sym c.in-Some.ensures.part)).1
