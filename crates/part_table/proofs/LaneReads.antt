-- What is read in the flat list of a cell's resources is the resource of the stage.
use Rattle.std.proofs.Common.{◌≡◌, ◌≤◌, ◌<◌, ℕ, ◌+◌, ◌*◌, ⊎_elim, List, [], Option, Some, None, length}
use Rattle.std.proofs.Common.{slice_get, arith, ap, ap₂, refl, sym, ◌∙◌}
use Rattle.std.specs.Option.{ForSome, option_map_or}
use Rattle.std.specs.Prelude.{unwrap_or}
use Rattle.std.proofs.lemmas.Nat.{div-mul-add, mod-mul-add}
use Rattle.std.proofs.lemmas.Bool.{cases_lt}
use Rattle.std.proofs.lemmas.Option.{none-some, slice_get_within, get_or_from_slice_get}
use Rattle.std.proofs.lemmas.List.FromFn.{get_or-map-range_with_len, length-map-range_with_len}
use Rattle.cell_base.specs.declared.cells.Cell.{Cell}
use Rattle.cell_base.specs.declared.cells.JobType.{JobType}
use Rattle.cell_base.specs.declared.cells.Step.{Step}
use Rattle.cell_base.specs.declared.limits.TheConstants.{MAX_PLACES, MAX_RESOURCES}
use Rattle.cell_base.specs.Fits.{CellFits}
use Rattle.cell_base.specs.Stages.{Stage, IsStage, stage, route_of, resource_at}
use Rattle.cell_base.proofs.Stages.{resource_within, kind_within, type_fits}
use Rattle.lists.proofs.Elements.{none_past}
use Rattle.part_table.specs.Lanes.{AreLanes, lane_at, lanes_of}

-- the resource of a stage that there isn't
pub no_stage : (cell : Cell) (s : Stage) → (IsStage cell s → ⊥) → resource_at cell s ≡ 0
no_stage cell s none = at (slice_get (route_of cell s.kind) s.place) refl
  where
    at : (o : Option Step) → slice_get (route_of cell s.kind) s.place ≡ o → option_map_or (λ (x : Step). x.on.0) o 0 ≡ 0
    at None e = refl
    at (Some x) e = absurd (none (slice_get_within (route_of cell s.kind) s.place x e))

module _ (cell : Cell) (fits : CellFits cell) where
  -- no place of a route is past the last one that any route may have
  pub place_within : (kind place : ℕ) → IsStage cell (stage kind place) → place < MAX_PLACES
  place_within kind place standing = at (slice_get cell.types kind) refl standing
    where
      at : (o : Option JobType) → slice_get cell.types kind ≡ o
          → place < length (option_map_or (λ (t : JobType). t.route) o []) → place < MAX_PLACES
      at None e h = absurd (omega (arith, h))
      at (Some t) e h = omega (arith, h, (type_fits cell fits kind t e).places.1)

  -- where no route has such a place
  pub past_places : (kind place : ℕ) → MAX_PLACES ≤ place → resource_at cell (stage kind place) ≡ 0
  past_places kind place far = no_stage cell (stage kind place) (λ standing. omega (arith, far, place_within kind place standing))

  -- each resource is below the number that there may be
  pub resource_small : (s : Stage) → resource_at cell s < MAX_RESOURCES
  resource_small s = ⊎_elim
      (λ (h : s.place < length (route_of cell s.kind)). omega (arith, resource_within cell fits s h, fits.resource_count.1))
      (λ (h : length (route_of cell s.kind) ≤ s.place). omega (arith, no_stage cell s (λ standing. omega (arith, h, standing))))
      (cases_lt s.place (length (route_of cell s.kind)))

  -- what is read
  pub lane_read : (kind place : ℕ) (o : Option ℕ) → place < MAX_PLACES → slice_get (lanes_of cell) (kind * MAX_PLACES + place) ≡ o
      → unwrap_or o 0 ≡ resource_at cell (stage kind place)
  lane_read kind place None near e =
      sym (no_stage cell (stage kind place) (λ standing.
      none_past (lanes_of cell) (kind * MAX_PLACES + place) e
      (omega (
        arith,
        near,
        kind_within cell (stage kind place) standing,
        length-map-range_with_len (lane_at cell) 0 (length cell.types * MAX_PLACES),
      ))))
  lane_read kind place (Some r) near e =
      let i = kind * MAX_PLACES + place in
      let within : kind * MAX_PLACES + place < length cell.types * MAX_PLACES =
      omega (arith, slice_get_within (lanes_of cell) i r e, length-map-range_with_len (lane_at cell) 0 (length cell.types * MAX_PLACES)) in
      sym (get_or_from_slice_get (lanes_of cell) i r 0 e)
      ∙ get_or-map-range_with_len (lane_at cell) 0 (length cell.types * MAX_PLACES) i i 0 within (omega arith)
      ∙ ap₂ (λ k p. resource_at cell (stage k p)) (div-mul-add kind MAX_PLACES place near) (mod-mul-add kind MAX_PLACES place near)

module _ (told : Option Cell) (resources : List ℕ) (are : AreLanes told resources) where
  -- the same of the list that is kept
  pub told_read : (kind place : ℕ) (o : Option ℕ) → place < MAX_PLACES → slice_get resources (kind * MAX_PLACES + place) ≡ o
      → ForSome told (λ cell. unwrap_or o 0 ≡ resource_at cell (stage kind place))
  told_read kind place o near e cell is =
      lane_read cell (are.fits cell is) kind place o near
      (sym (ap (λ (xs : List ℕ). slice_get xs (kind * MAX_PLACES + place)) (are.all ∙ ap (λ t. option_map_or lanes_of t []) is)) ∙ e)

-- each number in it is small
pub told_small : (told : Option Cell) (resources : List ℕ) → AreLanes told resources
    → (kind place r : ℕ) → place < MAX_PLACES → slice_get resources (kind * MAX_PLACES + place) ≡ Some r → r < MAX_RESOURCES
told_small None resources are kind place r near e =
    absurd (none-some r (sym (ap (λ (xs : List ℕ). slice_get xs (kind * MAX_PLACES + place)) are.all) ∙ e))
told_small (Some cell) resources are kind place r near e =
    omega (
      arith,
      told_read (Some cell) resources are kind place (Some r) near e cell refl,
      resource_small cell (are.fits cell refl) (stage kind place),
    )
