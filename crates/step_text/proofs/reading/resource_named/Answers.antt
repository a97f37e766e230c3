-- A word that stands among the names is one.
use Rattle.std.proofs.Common.{sym, ◌∙◌}
use Rattle.step_text.proofs.Naming.{resource_found}
use Rattle.step_text.proofs.reading.resource_named.Goals as goal

pub returns-in-Some-clause-number : goal.returns-in-Some-clause-number
returns-in-Some-clause-number c =
    sym (resource_found c.args.cell.now c.resource_of.ensures.fits c.args.word.now c.in-Some.number
    (sym c.resource_of.ensures.number ∙ c.in-Some.is))
