-- A word that stands among the names is one.
use Rattle.std.proofs.Common.{sym, ◌∙◌}
use Rattle.step_text.proofs.Naming.{type_found}
use Rattle.step_text.proofs.reading.type_named.Goals as goal

pub returns-in-Some-clause-number : goal.returns-in-Some-clause-number
returns-in-Some-clause-number c =
    sym (type_found c.args.cell.now c.type_of.ensures.fits c.args.word.now c.in-Some.number (sym c.type_of.ensures.number ∙ c.in-Some.is))
