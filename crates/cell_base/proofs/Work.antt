-- Work: what a part needs at a stage, and after it.
use Rattle.std.proofs.Common.{◌≡◌, ℕ, zero, suc, ◌+◌, ◌<◌, ◌≤◌, Bool, true, false, not, cond, []}
use Rattle.std.proofs.Common.{◌∷◌, drop, Option, Some, None, sum_by, ap, refl, sym, arith, ◌∙◌}
use Rattle.std.specs.Option.{option_map_or}
use Rattle.std.proofs.lemmas.Bool.{eqb-true}
use Rattle.std.proofs.lemmas.List.{nil_from_length}
use Rattle.std.proofs.lemmas.List.Sums.{sum_by-cons}
use Rattle.cell_base.specs.declared.cells.Cell.{Cell}
use Rattle.cell_base.specs.declared.cells.TypeId.{TypeId}
use Rattle.cell_base.specs.declared.requests.JobId.{JobId}
use Rattle.cell_base.specs.declared.requests.Part.{Part}
use Rattle.cell_base.specs.Stages.{Stage, IsStage, stage_of, places_left, works_at, is_last}
use Rattle.cell_base.specs.Stages.{successors, successor, path_within, first_branch_path}
use Rattle.cell_base.specs.Outcomes.{arrival}
use Rattle.cell_base.specs.Fits.{CellFits}
use Rattle.cell_base.specs.Plans.{work_at, work_of}
use Rattle.lists.proofs.Elements.{Contains-slice_get}
use Rattle.cell_base.proofs.Stages.{arrival_stage, successor_stage, places_left_fall}

-- the same part, done
abbrev pub finished : Part → Part
finished part = record part { done = true }

-- the work after a stage
abbrev pub work_after : Cell → Stage → ℕ
work_after cell s = sum_by (work_at cell) (drop 1 (first_branch_path cell s))

-- what a part needs once it has arrived: its unload stands in for the arrival that `work_at` counts
pub work_of-arrival : (cell : Cell) (job : JobId) (kind : TypeId) (place : ℕ)
    → work_of cell (arrival cell job kind place) ≡
    work_at cell (stage_of (arrival cell job kind place)) + work_after cell (stage_of (arrival cell job kind place))
work_of-arrival cell job kind place =
    at (works_at cell (stage_of (arrival cell job kind place))) (work_after cell (stage_of (arrival cell job kind place)))
  where
    at : (works : Bool) (behind : ℕ) → cond (not works) 0 1 + behind + 1 ≡ cond works 2 1 + behind
    at true behind = omega arith
    at false behind = omega arith

module _ (cell : Cell) (fits : CellFits cell) where
  -- with room for the places left the path is whole
  path_within_same : (n m : ℕ) (s : Stage) → IsStage cell s → places_left cell s ≤ n → places_left cell s ≤ m
      → path_within cell n s ≡ path_within cell m s
  path_within_same zero m s stage deep also = absurd (omega arith)
  path_within_same (suc n) zero s stage deep also = absurd (omega arith)
  path_within_same (suc n) (suc m) s stage deep also = ap (λ rest. s ∷ rest) (behind (successor cell s 0) refl (path_within_same n m))
    where
      behind : (o : Option Stage) → successor cell s 0 ≡ o
          → ((t : Stage) → IsStage cell t → places_left cell t ≤ n → places_left cell t ≤ m → path_within cell n t ≡ path_within cell m t)
          → option_map_or (λ t. path_within cell n t) o [] ≡ option_map_or (λ t. path_within cell m t) o []
      behind None e same = refl
      behind (Some t) e same =
          let next = Contains-slice_get (successors cell s) 0 t e in
          let fall : places_left cell t < places_left cell s = places_left_fall cell fits s t next in
          same t (successor_stage cell fits s t next) (omega arith) (omega arith)

  -- the path goes on by the successor of branch 0
  pub first_branch_path-next : (s : Stage) → IsStage cell s
      → first_branch_path cell s ≡ s ∷ option_map_or (first_branch_path cell) (successor cell s 0) []
  first_branch_path-next s stage =
      path_within_same (places_left cell s) (suc (places_left cell s)) s stage (omega arith) (omega arith)
      ∙ ap (λ rest. s ∷ rest) (behind (successor cell s 0) refl)
    where
      behind : (o : Option Stage) → successor cell s 0 ≡ o
          → option_map_or (λ t. path_within cell (places_left cell s) t) o [] ≡ option_map_or (first_branch_path cell) o []
      behind None e = refl
      behind (Some t) e =
          let next = Contains-slice_get (successors cell s) 0 t e in
          let fall : places_left cell t < places_left cell s = places_left_fall cell fits s t next in
          path_within_same (places_left cell s) (places_left cell t) t (successor_stage cell fits s t next) (omega arith) (omega arith)

  pub work_after-last : (s : Stage) → IsStage cell s → is_last cell s ≡ true → work_after cell s ≡ 0
  work_after-last s stage last = rw (first_branch_path-next s stage, nil_from_length (successors cell s) (eqb-true _ _ last))

  pub work_after-next : (s t : Stage) → IsStage cell s → successor cell s 0 ≡ Some t → work_after cell s
      ≡ work_at cell t + work_after cell t
  work_after-next s t stage e =
      let stage_t = successor_stage cell fits s t (Contains-slice_get (successors cell s) 0 t e) in
      let behind : drop 1 (first_branch_path cell s) ≡ first_branch_path cell t = rw (first_branch_path-next s stage, e) in
      let onward = first_branch_path-next t stage_t in
      ap (sum_by (work_at cell)) (behind ∙ onward)
      ∙ sum_by-cons (work_at cell) t (option_map_or (first_branch_path cell) (successor cell t 0) [])
      ∙ ap (λ rest. work_at cell t + sum_by (work_at cell) (drop 1 rest)) (sym onward)

  -- a part at a last stage has its unload left
  pub work_of-last : (part : Part) → IsStage cell (stage_of part) → part.done ≡ true → is_last cell (stage_of part) ≡ true
      → work_of cell part ≡ 1
  work_of-last part stage done last = omega (arith, work_after-last (stage_of part) stage last, ap (λ b. cond {A = ℕ} b 0 1) done)

  -- a part that goes on by branch 0 has one step less left
  pub work_of-moved : (part : Part) (to : Stage) → IsStage cell (stage_of part) → part.done ≡ true
      → successor cell (stage_of part) 0 ≡ Some to
      → work_of cell part ≡ work_of cell (arrival cell part.job part.kind to.place) + 1
  work_of-moved part to stage done e =
      omega (
        arith,
        ap (λ b. cond {A = ℕ} b 0 1) done,
        work_after-next (stage_of part) to stage e,
        work_of-arrival cell part.job part.kind to.place,
        ap (λ s. work_at cell s + work_after cell s)
            (arrival_stage cell fits part to (Contains-slice_get (successors cell (stage_of part)) 0 to e)),
      )

pub work_of-finished : (cell : Cell) (part : Part) → part.done ≡ false → work_of cell part ≡ work_of cell (finished part) + 1
work_of-finished cell part waiting = omega (arith, ap (λ b. cond {A = ℕ} b 0 1) waiting)

-- every part needs a step
pub work_of-positive : (cell : Cell) (part : Part) → 0 < work_of cell part
work_of-positive cell part = omega arith
