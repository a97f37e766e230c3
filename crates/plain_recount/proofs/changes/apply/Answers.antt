-- Each change is that of the definition, where the request's part stands.
use Rattle.std.proofs.Common.{sym, ◌∙◌}
use Rattle.policy_laws.proofs.Granting.{unload-granted}
use Rattle.plain_recount.proofs.changes.apply.Goals as goal

pub returns-in-Unload-clause-parts : goal.returns-in-Unload-clause-parts
returns-in-Unload-clause-parts c =
    rw c.in-Unload.is
    (c.take_out.ensures.items c.in-Unload.job (rw c.in-Unload.is at c.requires.found)
    ∙ sym (unload-granted c.args.table.now c.args.parts.now.items c.in-Unload.job (rw c.in-Unload.is at c.requires.granted)))
