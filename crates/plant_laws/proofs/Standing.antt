-- Standing: what is known in a state of a plant of where a part stands, and of the room of a cell.
use Rattle.std.proofs.Common.{◌≡◌, ℕ, ◌+◌, ◌≤◌, Bool, true, false, cond, ◌==◌, Option, Some, None, List, [], ◌∷◌, Contains, ap, refl, sym}
use Rattle.std.proofs.Common.{subst, arith, ◌∙◌, not, ◌&&◌, ◌||◌, ◌⊎◌, inl, inr, ⊎_elim, length}
use Rattle.std.specs.List.{count_by, range_with_len}
use Rattle.std.specs.Option.{option_map_or}
use Rattle.std.proofs.lemmas.Bool.{eqb-true, eqb-false, eq-eqb, cond_both, false≢true, both_ways, not-true, not-false}
use Rattle.std.proofs.lemmas.Bool.{and_parts, and_cases, or_cases}
use Rattle.std.proofs.lemmas.List.Elements.{All-contains, Contains-append_right}
use Rattle.std.proofs.lemmas.List.Sums.{length-filter, AllPass-from_list_all}
use Rattle.cell_base.specs.declared.requests.JobId.{JobId}
use Rattle.cell_base.specs.declared.requests.Part.{Part}
use Rattle.cell_base.specs.Stages.{IsStage, stage_of, capacity_of}
use Rattle.cell_base.specs.Neighborhoods.{leads}
use Rattle.cell_base.specs.Policy.{is_loaded, IsAdmitted}
use Rattle.cell_base.specs.Outcomes.{part_of}
use Rattle.lists.proofs.Elements.{Contains-head}
use Rattle.cell_base.proofs.Stages.{resource_within}
use Rattle.cell_base.proofs.Admission.{each_number}
use Rattle.policy_laws.proofs.Leading.{leads_here}
use Rattle.policy_laws.proofs.Parts.{part_of-found, part_of-job}
use Rattle.plant_laws.specs.declared.plants.Plant.{Plant}
use Rattle.plant_laws.specs.Plants.{IsCell, cell_at, cell_of, belongs_to, is_at_exit, PlantFits}
use Rattle.plant_laws.specs.PlantStates.{has_arrived, ends_visit, stands_nowhere, stands_once, is_over, PlantState, stands_in, HasRoom}
use Rattle.plant_laws.specs.PlantStates.{IsPlantState, is_queued}
use Rattle.plant_laws.specs.PlantSteps.{with_parts}
use Rattle.plant_laws.proofs.Jobs.{same_part}
use Rattle.plant_laws.proofs.Splits.{IsSplit, count_by-le, count_by-cons, count_by-append}

-- what holds of the parts of each cell, where those of one are others
pub with_parts-each : (P : ℕ → List Part → Type 0) (below : ℕ → List Part) (c : ℕ) (parts : List Part) → P c parts
    → ((d : ℕ) → (d ≡ c → ⊥) → P d (below d)) → (d : ℕ) → P d (with_parts below c parts d)
with_parts-each P below c parts here others d =
    cond_both (d == c) parts (below d) (P d) (λ e. subst (λ (k : ℕ). P k parts) (sym (eqb-true d c e)) here)
    (λ e. others d (eqb-false d c e))

-- what holds of an option by a test that fails at none
pub found_by : {X : Type 0} (test : X → Bool) (o : Option X) → option_map_or test o false ≡ true → (x : X) × (o ≡ Some x) × (test x ≡ true)
found_by test None e = absurd (false≢true e)
found_by test (Some x) e = (x, refl, e)

module _ (plant : Plant) (fits : PlantFits plant) where
  -- a part of the plant belongs to a cell of it
  pub cell_within : (parts : List Part) (part : Part) → IsAdmitted plant.above parts → Contains parts part → IsCell plant
      (cell_of plant part)
  cell_within parts part admitted c =
      let stage : IsStage plant.above (stage_of part) =
      All-contains (λ part. IsStage plant.above (stage_of part)) parts part admitted.state.standing c in
      omega (arith, resource_within plant.above fits.above (stage_of part) stage, fits.each)

  -- at most as many parts belong to a cell as the plant gives it units
  pub belongs_few : (parts : List Part) (c : ℕ) → IsAdmitted plant.above parts → IsCell plant c
      → count_by (belongs_to plant c) parts ≤ capacity_of plant.above c
  belongs_few parts c admitted within =
      omega (
        arith,
        count_by-le (belongs_to plant c) (λ part. leads plant.above (stage_of part) c) parts (λ part at e.
            leads_here plant.above fits.above c (stage_of part)
            (All-contains (λ part. IsStage plant.above (stage_of part)) parts part admitted.state.standing at) (eqb-true _ _ e)),
        length-filter (λ part. leads plant.above (stage_of part) c) parts,
        admitted.within c (omega (arith, within, fits.each)),
      )

  -- the last part has room: it was granted just now
  pub room_last : (state : PlantState) (before later : List Part) (part : Part) → IsAdmitted plant.above state.above
      → IsSplit state.above before part later → later ≡ [] → HasRoom plant state before part later
  room_last state before later part admitted split last =
      let c : ℕ = cell_of plant part in
      let here : Contains state.above part =
      subst (λ (xs : List Part). Contains xs part) (sym split)
      (Contains-append_right before (part ∷ later) part (Contains-head part later)) in
      let own : cond {A = ℕ} (belongs_to plant c part) 1 0 ≡ 1 = ap (λ b. cond {A = ℕ} b 1 0) (eq-eqb c c refl) in
      let whole : count_by (belongs_to plant c) state.above ≡ count_by (belongs_to plant c) before
      + (cond (belongs_to plant c part) 1 0 + count_by (belongs_to plant c) later) =
      ap (count_by (belongs_to plant c)) split ∙ count_by-append (belongs_to plant c) before (part ∷ later)
      ∙ ap (λ n. count_by (belongs_to plant c) before + n) (count_by-cons (belongs_to plant c) part later) in
      let none : count_by (stands_in state c) later ≡ 0 = ap (count_by (stands_in state c)) last in
      omega (arith, belongs_few state.above c admitted (cell_within state.above part admitted here), own, whole, none)

  module _ (state : PlantState) (is : IsPlantState plant state) where
    -- where a part has arrived, the part of its job in its cell stands at the exit
    module _ (part : Part) (at : Contains state.above part) (arrived : has_arrived plant state part ≡ true) where
      arrived_part : (q : Part) × (part_of (state.below (cell_of plant part)) part.job ≡ Some q)
          × (is_at_exit (cell_at plant (cell_of plant part)) q ≡ true)
      arrived_part =
          let found = found_by (ends_visit plant part) (part_of (state.below (cell_of plant part)) part.job) arrived in
          (found.0, found.1, (and_parts _ _ found.2).0)

      pub waits_at_exit : (d : ℕ) → d ≡ cell_of plant part → (q : Part) → Contains (state.below d) q → q.job ≡ part.job
          → is_at_exit (cell_at plant d) q ≡ true
      waits_at_exit d here q c same =
          subst (λ (k : ℕ). Contains (state.below k) q → is_at_exit (cell_at plant k) q ≡ true) (sym here) (λ there.
          let own : IsCell plant (cell_of plant part) = cell_within state.above part is.above at in
          let found = part_of-found (state.below (cell_of plant part)) part.job arrived_part.0 arrived_part.1 in
          let is_q : arrived_part.0 ≡ q =
          same_part (state.below (cell_of plant part)) arrived_part.0 q (is.below (cell_of plant part) own).state.distinct
          found.0 there (found.1 ∙ sym same) in
          subst (λ (p : Part). is_at_exit (cell_at plant (cell_of plant part)) p ≡ true) is_q arrived_part.2) c

    -- what the test says of a job that stands nowhere, and of a part that stands nowhere else
    pub nowhere : (job : JobId) → stands_nowhere plant state job ≡ true → (c : ℕ) → IsCell plant c → is_loaded (state.below c) job ≡ false
    nowhere job e c within =
        not-true _ (each_number (length plant.cells) (λ c. not (is_loaded (state.below c) job) ≡ true)
        (AllPass-from_list_all (λ c. not (is_loaded (state.below c) job)) (range_with_len 0 (length plant.cells)) e) c within)

    pub once : (part : Part) → stands_once plant state part ≡ true → (c : ℕ) → IsCell plant c → stands_in state c part ≡ true
        → c ≡ cell_of plant part
    once part e c within there =
        ⊎_elim (λ here. eqb-true c (cell_of plant part) here) (λ away. absurd (both_ways _ (not-true _ away) there))
        (or_cases (c == cell_of plant part) (not (stands_in state c part))
        (each_number (length plant.cells) (λ c. ((c == cell_of plant part) || not (stands_in state c part)) ≡ true)
        (AllPass-from_list_all (λ c. (c == cell_of plant part) || not (stands_in state c part)) (range_with_len 0 (length plant.cells)) e)
        c within))

    -- a job that is not over in a cell is of a part that belongs there or is queued
    pub not_over : (c : ℕ) (job : JobId) → is_over plant state c job ≡ false
        → (part : Part) × (part_of state.above job ≡ Some part) × ((cell_of plant part ≡ c) ⊎ (is_queued plant state part ≡ true))
    not_over c job e = by (part_of state.above job) refl e
      where
        by : (o : Option Part) → part_of state.above job ≡ o
            → option_map_or (λ part. not (belongs_to plant c part) && not (is_queued plant state part)) o true ≡ false
            → (part : Part) × (part_of state.above job ≡ Some part) × ((cell_of plant part ≡ c) ⊎ (is_queued plant state part ≡ true))
        by None is e = absurd (false≢true (sym e))
        by (Some part) is e =
            (part, is, ⊎_elim (λ own. inl (eqb-true _ _ (not-false _ own))) (λ queued. inr (not-false _ queued)) (and_cases _ _ e))

    -- and one that is over is not of a part that belongs there
    pub over_elsewhere : (c : ℕ) (part : Part) → is_over plant state c part.job ≡ true → Contains state.above part → cell_of plant part
        ≡ c → ⊥
    over_elsewhere c part e at own =
        let found : part_of state.above part.job ≡ Some part = part_of-job state.above part is.above.state.distinct at in
        let over : (not (belongs_to plant c part) && not (is_queued plant state part)) ≡ true =
        sym (ap (λ (o : Option Part).
        option_map_or (λ part. not (belongs_to plant c part) && not (is_queued plant state part)) o true) found) ∙ e in
        both_ways _ (not-true _ (and_parts _ _ over).0) (eq-eqb _ _ own)
