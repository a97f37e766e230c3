-- How many steps a part needs at most, and the steps at a stage from those at the stage after it by branch 0.
use Rattle.std.proofs.Common.{◌≡◌, ℕ, zero, suc, ◌+◌, ◌*◌, ◌≤◌, true, false, Bool, cond, [], ◌∷◌}
use Rattle.std.proofs.Common.{length, drop, length-drop, get_or, Option, Some, None, refl, arith}
use Rattle.std.specs.Option.{option_map_or}
use Rattle.std.proofs.lemmas.List.Sums.{sum_by-le}
use Rattle.cell_base.specs.declared.cells.Cell.{Cell}
use Rattle.cell_base.specs.Stages.{Stage, IsStage, places_left, successor, path_within, first_branch_path, works_at}
use Rattle.cell_base.specs.Plans.{work_at, work_from}
use Rattle.cell_base.specs.Fits.{CellFits}
use Rattle.cell_base.proofs.Work.{first_branch_path-next, work_after-next}
use Rattle.cell_base.proofs.StageCounts.{length-route_of}

module _ (cell : Cell) where
  pub length-path_within : (n : ℕ) (s : Stage) → length (path_within cell n s) ≤ n
  length-path_within zero s = omega arith
  length-path_within (suc n) s = at (successor cell s 0) (length-path_within n)
    where
      at : (o : Option Stage) → ((t : Stage) → length (path_within cell n t) ≤ n)
          → length (s ∷ option_map_or (λ t. path_within cell n t) o []) ≤ suc n
      at None short = omega arith
      at (Some t) short = omega (arith, short t)

  pub work_at-le : (s : Stage) → work_at cell s ≤ 2
  work_at-le s = at (works_at cell s)
    where
      at : (works : Bool) → cond works 2 1 ≤ 2
      at true = omega arith
      at false = omega arith

  -- two steps at most for each place
  pub work_from-le : (s : Stage) → IsStage cell s → work_from cell s true ≤ 2 * places_left cell s
  work_from-le s standing =
      let behind = drop 1 (first_branch_path cell s) in
      omega (
        arith,
        sum_by-le (work_at cell) 2 behind (λ k d h. work_at-le (get_or behind k d)),
        length-drop 1 (first_branch_path cell s),
        length-path_within (places_left cell s) s,
      )

module _ (cell : Cell) (fits : CellFits cell) where
  pub work_from-few : (s : Stage) → IsStage cell s → work_from cell s true ≤ 128
  work_from-few s standing = omega (arith, work_from-le cell s standing, length-route_of cell fits s.kind)

  pub work_from-last : (s : Stage) → IsStage cell s → successor cell s 0 ≡ None → work_from cell s true ≡ 1
  work_from-last s standing e = rw (first_branch_path-next cell fits s standing, e) refl

  pub work_from-next : (s t : Stage) → IsStage cell s → successor cell s 0 ≡ Some t
      → work_from cell s true ≡ work_from cell t true + work_at cell t
  work_from-next s t standing e = omega (arith, work_after-next cell fits s t standing e)
