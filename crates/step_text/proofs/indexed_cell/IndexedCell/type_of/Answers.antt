-- The number of a name that was guessed is its first place, since no two names are the same.
use Rattle.std.proofs.Common.{sym, subst}
use Rattle.cell_base.specs.Fits.{CellFits}
use Rattle.step_text.proofs.Naming.{type_at}
use Rattle.step_text.proofs.indexed_cell.IndexedCell.type_of.Goals as goal

pub returns-in-Some-clause-number : goal.returns-in-Some-clause-number
returns-in-Some-clause-number c =
    let fits = subst CellFits c.self.view_is c.self.invariant in
    sym (type_at c.args.self.now fits c.args.name.now c.in-Some.number c.in-Some.ensures.within c.in-Some.ensures.name)
