-- Units: an admitted state has no more parts than the cell has units, since each part is counted at its own resource.
use Rattle.std.proofs.Common.{◌≡◌, ℕ, zero, suc, ◌+◌, ◌≤◌, Option, Some, List, [], ◌∷◌, length}
use Rattle.std.proofs.Common.{take, All, slice_get, get_or, add-one, refl, ap, arith}
use Rattle.std.specs.List.{filter}
use Rattle.std.specs.Option.{option_map_or}
use Rattle.std.proofs.lemmas.Bool.{cond_both}
use Rattle.std.proofs.lemmas.List.{take_all}
use Rattle.std.proofs.lemmas.List.Elements.{All-head, All-tail}
use Rattle.std.proofs.lemmas.List.Sums.{sum_by_more}
use Rattle.std.proofs.lemmas.Option.{slice_get-get_or}
use Rattle.cell_base.specs.declared.cells.Cell.{Cell}
use Rattle.cell_base.specs.declared.cells.Resource.{Resource}
use Rattle.cell_base.specs.declared.requests.Part.{Part}
use Rattle.cell_base.specs.Stages.{IsStage, stage_of, resource_at, capacity_of}
use Rattle.cell_base.specs.Neighborhoods.{count, leads}
use Rattle.cell_base.specs.Fits.{CellFits, units_of}
use Rattle.policy_laws.specs.Laws.{UnitsLaw}
use Rattle.cell_base.proofs.Stages.{resource_within}
use Rattle.policy_laws.proofs.Leading.{leads_here}
use Rattle.policy_laws.proofs.Totals.{total, total-le, total-lt}

module _ (cell : Cell) where
  count-cons : (part : Part) (parts : List Part) (r : ℕ) → count cell parts r ≤ count cell (part ∷ parts) r
  count-cons part parts r =
      let others = filter (λ other. leads cell (stage_of other) r) parts in
      cond_both (leads cell (stage_of part) r) (part ∷ others) others (λ ys. count cell parts r ≤ length ys)
      (λ e. omega arith) (λ e. omega arith)

  -- the capacities of the first n resources
  total-capacity_of : (n : ℕ) → n ≤ length cell.resources → total (capacity_of cell) n ≡ units_of (take n cell.resources)
  total-capacity_of zero h = refl
  total-capacity_of (suc n) h =
      let none : Resource = record { name = []; capacity = 0; order = 0 } in
      let last : Resource = get_or cell.resources n none in
      let is : slice_get cell.resources n ≡ Some last = slice_get-get_or cell.resources n none (omega arith) in
      let here : capacity_of cell n ≡ last.capacity =
      ap (λ (o : Option Resource). option_map_or (λ (x : Resource). x.capacity) o 0) is in
      let more : units_of (take (suc n) cell.resources) ≡ units_of (take n cell.resources) + last.capacity =
      rw add-one at (sum_by_more (λ (r : Resource). r.capacity) cell.resources n none (omega arith)) in
      omega (arith, total-capacity_of n (omega arith), here, more)

  -- the capacities of all
  pub capacities_total : total (capacity_of cell) (length cell.resources) ≡ units_of cell.resources
  capacities_total =
      let n = length cell.resources in rw (take_all n cell.resources (omega arith)) at (total-capacity_of n (omega arith))

  module _ (fits : CellFits cell) where
    -- a part is counted at its own resource
    count-cons_own : (part : Part) (parts : List Part) → IsStage cell (stage_of part)
        → count cell parts (resource_at cell (stage_of part)) + 1 ≤ count cell (part ∷ parts) (resource_at cell (stage_of part))
    count-cons_own part parts at =
        rw (leads_here cell fits (resource_at cell (stage_of part)) (stage_of part) at refl) (omega arith)

    length-le-counts : (parts : List Part) → All (λ part. IsStage cell (stage_of part)) parts
        → length parts ≤ total (count cell parts) (length cell.resources)
    length-le-counts [] standing = omega arith
    length-le-counts (part ∷ parts) standing =
        let at : IsStage cell (stage_of part) = All-head (λ other. IsStage cell (stage_of other)) part parts standing in
        let r = resource_at cell (stage_of part) in
        omega (
          arith,
          length-le-counts parts (All-tail (λ other. IsStage cell (stage_of other)) part parts standing),
          total-lt (count cell parts) (count cell (part ∷ parts)) (length cell.resources) r (λ q h. count-cons part parts q)
              (resource_within cell fits (stage_of part) at) (count-cons_own part parts at),
        )

    pub units_law : UnitsLaw cell
    units_law parts admitted =
        let n = length cell.resources in
        omega (
          arith,
          length-le-counts parts admitted.state.standing,
          total-le (count cell parts) (capacity_of cell) n admitted.within,
          capacities_total,
        )
