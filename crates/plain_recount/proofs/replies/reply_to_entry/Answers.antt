-- Without a job that is not there the parts are the same.
use Rattle.std.proofs.Common.{◌≡◌, true, false, ◌++◌, ◌∷◌, [], ap, sym, ◌∙◌, refl}
use Rattle.cell_base.specs.Policy.{is_loaded, is_of_job}
use Rattle.cell_base.specs.Outcomes.{admit}
use Rattle.policy_laws.proofs.Granting.{without-absent}
use Rattle.plain_recount.proofs.Found.{any_found, any_none, find_none}
use Rattle.plain_recount.proofs.replies.reply_to_entry.Goals as goal

pub returns-in-None : goal.returns-in-None
returns-in-None c =
    let absent : is_loaded c.args.parts.now c.args.part.job ≡ false =
    any_none (is_of_job c.args.part.job) c.args.parts.now (sym c.requires.found ∙ c.in-None.is) in
    rw absent
    (c.reply_to_arrival.ensures
    ∙ ap (λ others. (admit c.args.table.now c.args.parts.now (others ++ c.args.part ∷ [])).0)
    (without-absent c.args.parts.now c.args.part.job absent))

pub reply_to_arrival-requires-clause-present : goal.reply_to_arrival-requires-clause-present
reply_to_arrival-requires-clause-present c =
    sym (find_none (is_of_job c.args.part.job) c.args.parts.now (sym c.requires.found ∙ c.in-None.is))

pub returns-in-Some : goal.returns-in-Some
returns-in-Some c =
    let loaded : is_loaded c.args.parts.now c.args.part.job ≡ true =
    any_found (is_of_job c.args.part.job) c.args.parts.now c.in-Some.field-0 c.args.part (sym c.requires.found ∙ c.in-Some.is) in
    rw loaded refl
