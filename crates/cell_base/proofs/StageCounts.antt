-- How long routes are, and how many stages there are.
use Rattle.std.proofs.Common.{◌≡◌, ℕ, ◌*◌, ◌≤◌, [], length, take, subst, Option, Some, None, slice_get, refl, arith}
use Rattle.std.specs.Option.{option_map_or}
use Rattle.std.proofs.lemmas.List.{length-take-le}
use Rattle.std.proofs.lemmas.List.Elements.{All-take, All-weaker}
use Rattle.std.proofs.lemmas.List.Sums.{sum_by-le}
use Rattle.cell_base.specs.declared.limits.TheConstants.{MAX_PLACES}
use Rattle.cell_base.specs.declared.cells.Cell.{Cell}
use Rattle.cell_base.specs.declared.cells.JobType.{JobType}
use Rattle.cell_base.specs.Stages.{route_of, stages}
use Rattle.cell_base.specs.Fits.{CellFits, TypeFits}
use Rattle.cell_base.proofs.Stages.{type_fits}
use Rattle.cell_base.specs.Numbers.{first_number}
use Rattle.cell_base.proofs.Numbering.{length-stages}

module _ (cell : Cell) (fits : CellFits cell) where
  pub length-route_of : (kind : ℕ) → length (route_of cell kind) ≤ MAX_PLACES
  length-route_of kind = of (slice_get cell.types kind) refl
    where
      of : (o : Option JobType) → slice_get cell.types kind ≡ o → length (option_map_or (λ (t : JobType). t.route) o []) ≤ MAX_PLACES
      of None e = omega arith
      of (Some t) e = (type_fits cell fits kind t e).places.1

  pub first_number-le : (kind : ℕ) → kind ≤ length cell.types → first_number cell kind ≤ kind * MAX_PLACES
  first_number-le kind within =
      subst (λ (n : ℕ). first_number cell kind ≤ n * MAX_PLACES) (length-take-le kind cell.types within)
      (sum_by-le (λ (t : JobType). length t.route) MAX_PLACES (take kind cell.types)
      (All-take (λ (t : JobType). length t.route ≤ MAX_PLACES) kind cell.types
      (All-weaker (TypeFits (length cell.resources)) (λ (t : JobType). length t.route ≤ MAX_PLACES) (λ t h. h.places.1)
      cell.types fits.types)))

  pub few_before : (kinds : ℕ) → kinds ≤ length cell.types → first_number cell kinds ≤ 4096
  few_before kinds within = omega (arith, first_number-le kinds within, fits.type_count.1)

  pub few_stages : length (stages cell) ≤ 4096
  few_stages = omega (arith, length-stages cell, few_before (length cell.types) (omega arith))
