-- No part is counted, and there is room for as many as there are units.
use Rattle.std.proofs.Common.{◌≡◌, ℕ, ◌<◌, Some, List, [], length, map, get_or, ap, subst, sym, ◌∙◌, arith}
use Rattle.std.specs.Option.{option_map_or}
use Rattle.std.proofs.lemmas.List.{length-map, get_or-map, take_all}
use Rattle.std.proofs.lemmas.Option.{slice_get-get_or}
use Rattle.cell_base.specs.declared.cells.Cell.{Cell}
use Rattle.cell_base.specs.declared.cells.Resource.{Resource}
use Rattle.cell_base.specs.declared.requests.Part.{Part}
use Rattle.cell_base.specs.Stages.{capacity_of}
use Rattle.cell_base.specs.Plans.{work}
use Rattle.part_table.specs.Parts.{Table}
use Rattle.admission_core.specs.CoreState.{AreCounts}
use Rattle.admission_core.proofs.admission.no_parts.Goals as goal

-- the capacities of all resources
capacity_at : (cell : Cell) (r : ℕ) → r < length cell.resources → get_or (map (λ (x : Resource). x.capacity) cell.resources) r 0
    ≡ capacity_of cell r
capacity_at cell r within =
    let none : Resource = record { name = []; capacity = 0; order = 0 } in
    get_or-map (λ (x : Resource). x.capacity) cell.resources r none 0 within
    ∙ ap (λ o. option_map_or (λ (x : Resource). x.capacity) o 0) (sym (slice_get-get_or cell.resources r none within))

pub returns-clause-tallied : goal.returns-clause-tallied
returns-clause-tallied c =
    let cell = c.cell-cell.result.now in
    let all : c.loop-resource.capacities ≡ map (λ (r : Resource). r.capacity) cell.resources =
    c.loop-resource.invariant ∙ ap (map (λ (r : Resource). r.capacity)) (take_all c.loop-resource.resource-index cell.resources
    (omega (arith, ap length c.as_slice-resource-items.ensures))) in
    let complete : length c.in_ok-counts.counts.counts ≡ length cell.resources =
    c.in_ok-counts.ensures.length ∙ ap length all ∙ length-map cell.resources (λ (r : Resource). r.capacity) in
    let none = ap (λ (table : Table). table.parts) c.in_ok-parts.ensures ∙ c.in_ok-with_room.ensures.empty in
    rw (← c.cell-cell.ensures.value) (record {
      same_cell = ap (λ (table : Table). table.told) c.in_ok-parts.ensures ∙ ap Some (sym c.cell-cell.ensures.value);
      enough = omega (arith, ap (λ (table : Table). table.spare) c.in_ok-parts.ensures, c.in_ok-with_room.ensures.spare, c.units.ensures);
      counts = subst (λ (parts : List Part). AreCounts cell parts c.in_ok-counts.counts) (sym none) (record {
        complete = complete;
        each = λ r h. c.in_ok-counts.ensures.zero r;
        capacities = λ r h. ap (λ (xs : List ℕ). get_or xs r 0) (c.in_ok-counts.ensures.capacities ∙ all) ∙ capacity_at cell r h;
      });
      work = ap (λ (parts : List Part). work cell parts) (sym none);
    })
