-- Units: a hybrid state has no more parts than the cell has units, since each part stands on its own resource.
use Rattle.std.proofs.Common.{ℕ, ◌+◌, ◌≤◌, List, [], ◌∷◌, length, All, filter}
use Rattle.std.proofs.Common.{refl, ⊎_elim, arith}
use Rattle.std.proofs.lemmas.Bool.{cond_both, eq-eqb}
use Rattle.std.proofs.lemmas.List.Elements.{All-head, All-tail}
use Rattle.cell_base.specs.declared.limits.TheConstants.{MAX_UNITS}
use Rattle.cell_base.specs.declared.cells.Cell.{Cell}
use Rattle.cell_base.specs.declared.requests.Part.{Part}
use Rattle.cell_base.specs.Stages.{IsStage, stage_of, capacity_of}
use Rattle.cell_base.specs.Plans.{resource_of_part}
use Rattle.cell_base.specs.Fits.{CellFits, units_of}
use Rattle.policy_laws.proofs.Stages.{resource_within}
use Rattle.policy_laws.proofs.Totals.{total, total-le, total-lt}
use Rattle.policy_laws.proofs.Units.{capacities_total, units_law}
use Rattle.banker_check.specs.Ways.{stands_on, held}
use Rattle.banker_check.specs.Hybrid.{IsHybrid}

module _ (cell : Cell) where
  held-cons : (part : Part) (parts : List Part) (r : ℕ) → held cell parts r ≤ held cell (part ∷ parts) r
  held-cons part parts r =
      let others = filter (stands_on cell r) parts in
      cond_both (stands_on cell r part) (part ∷ others) others (λ ys. held cell parts r ≤ length ys) (λ e. omega arith) (λ e. omega arith)

  held-cons_own : (part : Part) (parts : List Part) → held cell parts (resource_of_part cell part) + 1 ≤ held cell (part ∷ parts)
      (resource_of_part cell part)
  held-cons_own part parts = rw (eq-eqb (resource_of_part cell part) (resource_of_part cell part) refl) (omega arith)

  module _ (fits : CellFits cell) where
    length-le-held : (parts : List Part) → All (λ part. IsStage cell (stage_of part)) parts
        → length parts ≤ total (held cell parts) (length cell.resources)
    length-le-held [] standing = omega arith
    length-le-held (part ∷ parts) standing =
        let at : IsStage cell (stage_of part) = All-head (λ other. IsStage cell (stage_of other)) part parts standing in
        omega (
          arith,
          length-le-held parts (All-tail (λ other. IsStage cell (stage_of other)) part parts standing),
          total-lt (held cell parts) (held cell (part ∷ parts)) (length cell.resources) (resource_of_part cell part)
              (λ q h. held-cons part parts q)
              (resource_within cell fits (stage_of part) at) (held-cons_own part parts),
        )

    pub hybrid-units : (parts : List Part) → IsHybrid cell parts → length parts ≤ units_of cell.resources
    hybrid-units parts hybrid =
        let n = length cell.resources in
        ⊎_elim (λ admitted. units_law cell fits parts admitted)
        (λ ordered. omega (
          arith,
          length-le-held parts ordered.state.standing,
          total-le (held cell parts) (capacity_of cell) n ordered.within,
          capacities_total cell,
        ))
        hybrid

    pub hybrid-few : (parts : List Part) → IsHybrid cell parts → length parts ≤ MAX_UNITS
    hybrid-few parts hybrid = omega (arith, hybrid-units parts hybrid, fits.units)
