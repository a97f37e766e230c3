-- Stages of a cell that fits: on which resource they are, and how many places are left after their successors.
use Rattle.std.proofs.Common.{◌≡◌, ℕ, ◌<◌, List, [], length, Option, Some, None, All, Contains, slice_get, refl, sym, arith}
use Rattle.std.specs.List.{range_with_len}
use Rattle.std.specs.Option.{option_map_or}
use Rattle.std.proofs.lemmas.List.Elements.{All-map}
use Rattle.std.proofs.lemmas.Option.{slice_get_within}
use Rattle.cell_base.specs.declared.cells.Cell.{Cell}
use Rattle.cell_base.specs.declared.cells.Resource.{Resource}
use Rattle.cell_base.specs.declared.cells.Step.{Step}
use Rattle.cell_base.specs.declared.cells.JobType.{JobType}
use Rattle.cell_base.specs.Stages.{Stage, IsStage, stage_of, stages, stages_of, route_of, places_left, successors, resource_at, capacity_of}
use Rattle.cell_base.specs.declared.requests.Part.{Part}
use Rattle.cell_base.specs.Outcomes.{arrival}
use Rattle.cell_base.specs.Fits.{CellFits, TypeFits, ResourceFits}
use Rattle.cell_base.proofs.Admission.{all_numbers}
use Rattle.cell_base.proofs.Successors.{successor_later}
use Rattle.lists.proofs.Elements.{All-slice_get, All-flat_map, none_past}

-- the stages of a cell are stages
pub stages_standing : (cell : Cell) → All (IsStage cell) (stages cell)
stages_standing cell = All-flat_map (IsStage cell) (stages_of cell) (range_with_len 0 (length cell.types)) (λ kind.
    All-map (IsStage cell) (λ place. record { kind = kind; place = place }) (range_with_len 0 (length (route_of cell kind)))
    (all_numbers (length (route_of cell kind)) (λ place. place < length (route_of cell kind)) (λ place h. h)))

-- a stage is of a type of the cell
pub kind_within : (cell : Cell) (s : Stage) → IsStage cell s → s.kind < length cell.types
kind_within cell s stage = at (slice_get cell.types s.kind) refl stage
  where
    at : (o : Option JobType) → slice_get cell.types s.kind ≡ o
        → s.place < length (option_map_or (λ (t : JobType). t.route) o []) → s.kind < length cell.types
    at None e h = absurd (omega (arith, h))
    at (Some t) e h = slice_get_within cell.types s.kind t e

module _ (cell : Cell) (fits : CellFits cell) where
  pub type_fits : (kind : ℕ) (t : JobType) → slice_get cell.types kind ≡ Some t → TypeFits (length cell.resources) t
  type_fits kind t e = All-slice_get (TypeFits (length cell.resources)) cell.types kind t fits.types e

  pub successor_stage : (s t : Stage) → Contains (successors cell s) t → IsStage cell t
  successor_stage s t c = (successor_later cell fits s t c).to

  -- fewer places are left after a successor than after the stage
  pub places_left_fall : (s t : Stage) → Contains (successors cell s) t → places_left cell t < places_left cell s
  places_left_fall s t c = let later = successor_later cell fits s t c in rw later.kind (omega (arith, later.later, later.from))

  -- the first place of a type is a stage
  pub first_stage : (kind : ℕ) → kind < length cell.types → IsStage cell (record { kind = kind; place = 0 })
  first_stage kind h = at (slice_get cell.types kind) refl
    where
      at : (o : Option JobType) → slice_get cell.types kind ≡ o → 0 < length (option_map_or (λ (t : JobType). t.route) o [])
      at None e = absurd (none_past cell.types kind e h)
      at (Some t) e = omega (arith, (type_fits kind t e).places.0)

  -- each resource has a unit at least
  pub capacity_positive : (r : ℕ) → r < length cell.resources → 0 < capacity_of cell r
  capacity_positive r h = at (slice_get cell.resources r) refl
    where
      at : (o : Option Resource) → slice_get cell.resources r ≡ o → 0 < option_map_or (λ (x : Resource). x.capacity) o 0
      at None e = absurd (none_past cell.resources r e h)
      at (Some x) e = omega (arith, (All-slice_get ResourceFits cell.resources r x fits.resources e).0.0)

  -- the resource of a stage is one of the cell's
  pub resource_within : (s : Stage) → IsStage cell s → resource_at cell s < length cell.resources
  resource_within s stage = at (slice_get cell.types s.kind) refl stage
    where
      on : (route : List Step) → All (λ (step : Step). step.on.0 < length cell.resources) route → (o : Option Step)
          → slice_get route s.place ≡ o → s.place < length route
          → option_map_or (λ (x : Step). x.on.0) o 0 < length cell.resources
      on route steps None e h = absurd (none_past route s.place e h)
      on route steps (Some x) e h = All-slice_get (λ (step : Step). step.on.0 < length cell.resources) route s.place x steps e

      at : (o : Option JobType) → slice_get cell.types s.kind ≡ o → s.place < length (option_map_or (λ (t : JobType). t.route) o [])
          → option_map_or (λ (x : Step). x.on.0) (slice_get (option_map_or (λ (t : JobType). t.route) o []) s.place) 0 <
          length cell.resources
      at None e h = absurd (omega (arith, h))
      at (Some t) e h = on t.route (type_fits s.kind t e).steps (slice_get t.route s.place) refl h

  -- a part that goes to a successor of its stage arrives there
  pub arrival_stage : (part : Part) (to : Stage) → Contains (successors cell (stage_of part)) to
      → stage_of (arrival cell part.job part.kind to.place) ≡ to
  arrival_stage part to next = λ i. record { kind = sym (successor_later cell fits (stage_of part) to next).kind i; place = to.place }
