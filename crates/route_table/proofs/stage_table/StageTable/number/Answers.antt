-- The number of the first stage of the type, and the place.
use Rattle.std.proofs.Common.{◌≡◌, length, ap, subst, ◌∙◌, arith}
use Rattle.cell_base.specs.declared.cells.Cell.{Cell}
use Rattle.cell_base.specs.Stages.{stage}
use Rattle.cell_base.specs.Fits.{CellFits}
use Rattle.cell_base.proofs.Stages.{kind_within}
use Rattle.cell_base.specs.Numbers.{first_number}
use Rattle.route_table.specs.Entries.{first_numbers}
use Rattle.lists.proofs.Growing.{length-made, made_at}
use Rattle.cell_base.proofs.Numbering.{number_within}
use Rattle.cell_base.proofs.StageCounts.{few_stages}
use Rattle.route_table.proofs.stage_table.StageTable.number.Goals as goal

pub get-requires : goal.get-requires
get-requires c =
    let cell = c.args.self.now in
    let made = c.self.invariant.numbers ∙ ap (λ (cell : Cell). first_numbers cell (length cell.types)) c.self.view_is in
    omega (
      arith,
      c.from.ensures,
      length-made (first_number cell) (length cell.types) c.self.inside.firsts made,
      kind_within cell (stage c.args.kind.0 c.args.place) c.requires,
    )

first_is : (c : goal.After-row_known-1) → c.get.result.now ≡ first_number c.args.self.now c.args.kind.0
first_is c =
    let cell = c.args.self.now in
    let made = c.self.invariant.numbers ∙ ap (λ (cell : Cell). first_numbers cell (length cell.types)) c.self.view_is in
    made_at (first_number cell) (length cell.types) c.from.result c.self.inside.firsts c.get.result.now made
    (omega (arith, c.from.ensures, kind_within cell (stage c.args.kind.0 c.args.place) c.requires)) c.get.ensures
    ∙ ap (first_number cell) c.from.ensures

pub overflow_add-result : goal.overflow_add-result
overflow_add-result c =
    let cell = c.args.self.now in
    omega (
      arith,
      first_is c,
      number_within cell (stage c.args.kind.0 c.args.place) c.requires,
      few_stages cell (subst CellFits c.self.view_is c.self.invariant.fits),
    )

pub returns : goal.returns
returns c = omega (arith, first_is c)
