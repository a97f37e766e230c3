-- What was made is what the definitions draw, and that fits.
use Rattle.std.proofs.Common.{ℕ, ◌<◌, List, length, ap, ap₂, sym, subst, ◌∙◌, arith}
use Rattle.std.specs.List.{All}
use Rattle.cell_base.specs.declared.cells.Cell.{Cell}
use Rattle.cell_base.specs.declared.cells.TypeId.{TypeId}
use Rattle.cell_base.specs.declared.shifts.Shift.{Shift}
use Rattle.cell_base.specs.Fits.{CellFits, ShiftFits}
use Rattle.cell_make.specs.Draws.{number_after}
use Rattle.cell_make.specs.Cells.{drawn_cell, number_after_cell}
use Rattle.cell_make.specs.Shifts.{drawn_kinds, shift_of, drawn_shift}
use Rattle.cell_make.proofs.Lists.{length-kinds}
use Rattle.cell_make.proofs.CellFit.{cell_fits}
use Rattle.cell_make.proofs.ShiftFit.{kinds_within, shift_fits}
use Rattle.cell_make.proofs.made.make.Goals as goal

pub shift_of-requires-clause-fits : goal.shift_of-requires-clause-fits
shift_of-requires-clause-fits c = subst CellFits (sym c.in_ok-cell.ensures.value) (cell_fits c.args.number)

pub shift_of-requires-clause-kinds : goal.shift_of-requires-clause-kinds
shift_of-requires-clause-kinds c =
    let x = c.args.number in
    let drawn = c.as_slice.ensures ∙ c.in_ok-kinds.ensures ∙ ap (λ (y : ℕ). drawn_kinds y 48) c.in_ok-cell.ensures.after in
    subst (λ (cell : Cell). All (λ (kind : TypeId). kind.0 < length cell.types) c.as_slice.result.now) (sym c.in_ok-cell.ensures.value)
    (subst (λ (kinds : List TypeId). All (λ (kind : TypeId). kind.0 < length (drawn_cell x).types) kinds) (sym drawn)
    (kinds_within (number_after x 32) (number_after_cell x)))

pub shift_of-requires-clause-few : goal.shift_of-requires-clause-few
shift_of-requires-clause-few c =
    let drawn = c.as_slice.ensures ∙ c.in_ok-kinds.ensures in
    omega (arith, ap (λ (kinds : List TypeId). length kinds) drawn, length-kinds c.draw_cell.new.draws.number 48)

pub returns-clause-cell_fits : goal.returns-clause-cell_fits
returns-clause-cell_fits c = subst CellFits (sym c.in_ok-cell.ensures.value) (cell_fits c.args.number)

pub returns-clause-shift_fits : goal.returns-clause-shift_fits
returns-clause-shift_fits c =
    let x = c.args.number in
    let drawn = c.as_slice.ensures ∙ c.in_ok-kinds.ensures ∙ ap (λ (y : ℕ). drawn_kinds y 48) c.in_ok-cell.ensures.after in
    subst (λ (shift : Shift). ShiftFits c.in_ok-cell.cell shift)
    (sym (c.in_ok-shift.ensures ∙ ap₂ (λ (cell : Cell) (kinds : List TypeId). shift_of cell kinds) c.in_ok-cell.ensures.value drawn))
    (subst (λ (cell : Cell). ShiftFits cell (drawn_shift x)) (sym c.in_ok-cell.ensures.value) (shift_fits x))
