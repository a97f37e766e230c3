-- Entry: the cell of the first of the queue has room, and admits it once all of its parts stand at the exit.
use Rattle.std.proofs.Common.{◌≡◌, ℕ, ◌+◌, ◌<◌, ◌≤◌, true, false, cond, ⊎_elim, Some, List, [], ◌∷◌, ◌++◌, length, All, Contains, ap}
use Rattle.std.proofs.Common.{refl, sym, subst, arith, ◌∙◌, ◌⊎◌}
use Rattle.std.specs.List.{count_by}
use Rattle.std.specs.Option.{option_and_then}
use Rattle.std.proofs.lemmas.Bool.{eq-eqb, both_ways, cases_Bool, cases_eq, false≢true, not-true, or_cases}
use Rattle.std.proofs.lemmas.List.{length_push}
use Rattle.std.proofs.lemmas.List.Elements.{All-contains, Contains-append_left}
use Rattle.std.proofs.lemmas.Option.{same_Some}
use Rattle.cell_base.specs.declared.cells.Cell.{Cell}
use Rattle.cell_base.specs.declared.cells.TypeId.{TypeId}
use Rattle.cell_base.specs.declared.requests.JobId.{JobId}
use Rattle.cell_base.specs.declared.requests.Part.{Part}
use Rattle.cell_base.specs.declared.requests.Request.TheVariants.{Load}
use Rattle.cell_base.specs.declared.requests.Reply.TheVariants.{Granted}
use Rattle.cell_base.specs.Stages.{stage_of, capacity_of}
use Rattle.cell_base.specs.Neighborhoods.{count}
use Rattle.cell_base.specs.Policy.{is_of_job, is_loaded, IsAdmitted, HaveDistinctJobs}
use Rattle.cell_base.specs.Outcomes.{without, arrival, reply_to, state_after, part_of}
use Rattle.cell_base.specs.Fits.{CellFits, RequestFits}
use Rattle.cell_base.proofs.Admission.{others_from_not_loaded}
use Rattle.lists.proofs.Elements.{find-Contains, find_passes}
use Rattle.cell_base.proofs.Stages.{first_stage, capacity_positive}
use Rattle.policy_laws.proofs.Parts.{same_job, distinct-without, part_of-job, part_of-found}
use Rattle.policy_laws.proofs.States.{share-le, count_push, count_none, IsState-push}
use Rattle.policy_laws.proofs.Decisions.{decision_law}
use Rattle.policy_laws.proofs.Requests.{standing}
use Rattle.plant_laws.specs.declared.plants.Plant.{Plant}
use Rattle.plant_laws.specs.Plants.{IsCell, cell_at, cell_of, exit_of, belongs_to, visit_at, is_at_exit, EndsAt, PlantFits}
use Rattle.plant_laws.specs.Plants.{routes_end_at_the_exit, exit_has_the_units}
use Rattle.plant_laws.specs.PlantStates.{PlantState, stands_in, is_queued, next_queued, first_queued, IsPlantState, IsTidy}
use Rattle.plant_laws.specs.PlantSteps.{enter, with_parts, after_entry, step_outcome}
use Rattle.plant_laws.specs.PlantLaws.{EntryLaw}
use Rattle.plant_laws.proofs.Lists.{length-without}
use Rattle.plant_laws.proofs.Gathering.{exit_alone, count-le-length}
use Rattle.plant_laws.proofs.Jobs.{loaded-from_part, part_from_loaded, without-found, loaded-from_without}
use Rattle.plant_laws.proofs.Splits.{IsSplit, find-split, find-both, count_by-le, count_by-cons, count_by-append, nil_from_none}
use Rattle.plant_laws.proofs.Standing.{cell_within, belongs_few, not_over}
use Rattle.plant_laws.proofs.Keeping.{visit_fits}
use Rattle.plant_laws.proofs.Reaching.{granted_parts-some}

-- parts of different jobs, each loaded above, are no more than the parts above of their jobs
pub length-le-loaded : (above parts : List Part) → HaveDistinctJobs parts
    → ((q : Part) → Contains parts q → is_loaded above q.job ≡ true) → length parts ≤ count_by (λ p. is_loaded parts p.job) above
length-le-loaded [] parts distinct each =
    let none : parts ≡ [] = nil_from_none parts (λ q c. false≢true (each q c)) in omega (arith, ap length none)
length-le-loaded (p ∷ above) parts distinct each =
    ⊎_elim (here (length-le-loaded above)) (away (length-le-loaded above)) (cases_Bool (is_loaded parts p.job))
  where
    behind : (q : Part) → Contains parts q → (q.job ≡ p.job → ⊥) → is_loaded above q.job ≡ true
    behind q c other =
        ⊎_elim (λ e. absurd (other (sym (same_job q.job p e)))) (λ e. e) (or_cases (is_of_job q.job p) (is_loaded above q.job) (each q c))

    away : ((rest : List Part) → HaveDistinctJobs rest → ((q : Part) → Contains rest q → is_loaded above q.job ≡ true)
        → length rest ≤ count_by (λ x. is_loaded rest x.job) above)
        → is_loaded parts p.job ≡ false → length parts ≤ count_by (λ x. is_loaded parts x.job) (p ∷ above)
    away later none =
        omega (
          arith,
          later parts distinct (λ q c. behind q c (λ same. both_ways _ none (loaded-from_part parts q p.job c same))),
          count_by-cons (λ x. is_loaded parts x.job) p above,
        )

    here : ((rest : List Part) → HaveDistinctJobs rest → ((q : Part) → Contains rest q → is_loaded above q.job ≡ true)
        → length rest ≤ count_by (λ x. is_loaded rest x.job) above)
        → is_loaded parts p.job ≡ true → length parts ≤ count_by (λ x. is_loaded parts x.job) (p ∷ above)
    here later some =
        let found = part_from_loaded parts p.job some in
        let fewer : length (without parts p.job) + 1 ≡ length parts =
        subst (λ (j : JobId). length (without parts j) + 1 ≡ length parts) found.2 (length-without parts found.0 distinct found.1) in
        omega (
          arith,
          fewer,
          later (without parts p.job) (distinct-without parts p.job distinct)
              (λ q c. let old = without-found parts p.job q c in behind q old.0 old.1),
          count_by-le (λ x. is_loaded (without parts p.job) x.job) (λ x. is_loaded parts x.job) above
              (λ x c e. (loaded-from_without parts p.job x.job e).0),
          count_by-cons (λ x. is_loaded parts x.job) p above,
          ap (λ b. cond {A = ℕ} b 1 0) some,
        )

-- a cell with all of its parts at the exit, fewer than the exit's units, admits one more
module _ (cell : Cell) (fits : CellFits cell) (exit : ℕ) (ends : EndsAt cell exit) (parts : List Part) (admitted : IsAdmitted cell parts)
    (exits : All (λ part. is_at_exit cell part ≡ true) parts) (few : length parts + 1 ≤ capacity_of cell exit) where
  one_more-admitted : (job : JobId) (kind : TypeId) → is_loaded parts job ≡ false → RequestFits cell (Load job kind)
      → IsAdmitted cell (parts ++ arrival cell job kind 0 ∷ [])
  one_more-admitted job kind absent fit = record {
    state =
        IsState-push cell parts (arrival cell job kind 0) admitted.state (others_from_not_loaded parts job absent)
        (first_stage cell fits kind.0 fit);
    within = λ r h. ⊎_elim (at_exit r) (elsewhere r h) (cases_eq r exit);
  }
    where
      new : Part
      new = arrival cell job kind 0

      at_exit : (r : ℕ) → r ≡ exit → count cell (parts ++ arrival cell job kind 0 ∷ []) r ≤ capacity_of cell r
      at_exit r same =
          omega (
            arith,
            few,
            ap (capacity_of cell) same,
            count-le-length cell (parts ++ arrival cell job kind 0 ∷ []) r,
            length_push parts (arrival cell job kind 0),
          )

      elsewhere : (r : ℕ) → r < length cell.resources → (r ≡ exit → ⊥)
          → count cell (parts ++ arrival cell job kind 0 ∷ []) r ≤ capacity_of cell r
      elsewhere r h other =
          omega (
            arith,
            count_push cell parts (arrival cell job kind 0) r,
            count_none cell parts r (λ q c. exit_alone cell fits exit ends q r (standing cell fits parts admitted q c)
                (All-contains (λ part. is_at_exit cell part ≡ true) parts q exits c) other),
            share-le cell r (stage_of (arrival cell job kind 0)),
            capacity_positive cell fits r h,
          )

  pub one_more-granted : (job : JobId) (kind : TypeId) → is_loaded parts job ≡ false → RequestFits cell (Load job kind)
      → reply_to cell parts (Load job kind) ≡ Granted
  one_more-granted job kind absent fit =
      (decision_law cell fits parts admitted (Load job kind) fit).reply.granted.1 (absent, one_more-admitted job kind absent fit)

module _ (plant : Plant) (fits : PlantFits plant) (state : PlantState) (is : IsPlantState plant state) (tidy : IsTidy plant state) where
  -- what stands in a cell and is not queued belongs there
  pub stands-belongs : (c : ℕ) → IsCell plant c → (x : Part) → Contains state.above x → is_queued plant state x ≡ false
      → stands_in state c x ≡ true → cell_of plant x ≡ c
  stands-belongs c within x at settled e = by (not_over plant fits state is c x.job (tidy c within x.job e))
    where
      by : (part : Part) × (part_of state.above x.job ≡ Some part) × ((cell_of plant part ≡ c) ⊎ (is_queued plant state part ≡ true))
          → cell_of plant x ≡ c
      by (part, found, cases) =
          let same : x ≡ part = same_Some x part (sym (part_of-job state.above x is.above.state.distinct at) ∙ found) in
          ⊎_elim (λ own. ap (cell_of plant) same ∙ own)
          (λ queued. absurd (both_ways _ settled (ap (is_queued plant state) same ∙ queued))) cases

  -- each part of a cell is of a job of the plant
  pub jobs_above : (c : ℕ) → IsCell plant c → (q : Part) → Contains (state.below c) q → is_loaded state.above q.job ≡ true
  jobs_above c within q at =
      let part = not_over plant fits state is c q.job (tidy c within q.job (loaded-from_part (state.below c) q q.job at refl)) in
      let found = part_of-found state.above q.job part.0 part.1 in loaded-from_part state.above part.0 q.job found.0 found.1

  -- a cell holds no more parts than there are parts of the plant that stand there
  length-le-standing : (c : ℕ) → IsCell plant c → length (state.below c) ≤ count_by (stands_in state c) state.above
  length-le-standing c within =
      length-le-loaded state.above (state.below c) (is.below c within).state.distinct (jobs_above c within)

  -- with no queue a cell holds at most as many parts as the plant gives it units
  pub settled_few : (c : ℕ) → IsCell plant c → ((x : Part) → Contains state.above x → is_queued plant state x ≡ false)
      → length (state.below c) ≤ capacity_of (cell_at plant c) (exit_of plant c)
  settled_few c within settled =
      omega (
        arith,
        length-le-standing c within,
        count_by-le (stands_in state c) (belongs_to plant c) state.above
            (λ x at e. eq-eqb _ _ (stands-belongs c within x at (settled x at) e)),
        belongs_few plant fits state.above c is.above within,
        fits.rules exit_has_the_units tt c within,
      )

  module _ (part : Part) (next : next_queued plant state ≡ Some part) where
    pub next_above : Contains state.above part
    next_above = find-Contains (is_queued plant state) state.above part next

    pub next_absent : stands_in state (cell_of plant part) part ≡ false
    next_absent = not-true _ (find_passes (is_queued plant state) state.above part next)

    pub next_within : IsCell plant (cell_of plant part)
    next_within = cell_within plant fits state.above part is.above next_above

    -- the cell of the first of the queue holds fewer parts than its exit has units
    pub next_few : length (state.below (cell_of plant part)) + 1 ≤ capacity_of (cell_at plant (cell_of plant part))
        (exit_of plant (cell_of plant part))
    next_few = by (find-split (is_queued plant state) state.above part next)
      where
        by : (before : List Part) × (later : List Part) × IsSplit state.above before part later
            × ((x : Part) → Contains before x → is_queued plant state x ≡ false)
            → length (state.below (cell_of plant part)) + 1 ≤ capacity_of (cell_at plant (cell_of plant part))
            (exit_of plant (cell_of plant part))
        by (before, later, split, settled) =
            omega (
              arith,
              length-le-standing (cell_of plant part) next_within,
              ap (count_by (stands_in state (cell_of plant part))) split,
              count_by-append (stands_in state (cell_of plant part)) before (part ∷ later),
              count_by-cons (stands_in state (cell_of plant part)) part later,
              ap (λ b. cond {A = ℕ} b 1 0) next_absent,
              count_by-le (stands_in state (cell_of plant part)) (belongs_to plant (cell_of plant part)) before (λ x at e.
                  eq-eqb _ _ (stands-belongs (cell_of plant part) next_within x
                  (subst (λ (xs : List Part). Contains xs x) (sym split) (Contains-append_left before (part ∷ later) x at))
                  (settled x at) e)),
              is.room before later part split (find_passes (is_queued plant state) state.above part next),
              fits.rules exit_has_the_units tt (cell_of plant part) next_within,
            )

    -- it is the first of its cell's queue too
    pub next_first : first_queued plant state (cell_of plant part) ≡ Some part
    next_first =
        find-both (is_queued plant state) (belongs_to plant (cell_of plant part)) state.above part next
        (eq-eqb (cell_of plant part) (cell_of plant part) refl)

    -- the state after its entry
    abbrev pub after_next : PlantState
    after_next = record {
      above = state.above;
      below = with_parts state.below (cell_of plant part)
          (state_after (cell_at plant (cell_of plant part)) (state.below (cell_of plant part))
          (Load part.job (visit_at plant (stage_of part))));
    }

    module _ (exits : All (λ q. is_at_exit (cell_at plant (cell_of plant part)) q ≡ true) (state.below (cell_of plant part))) where
      pub next_granted : reply_to (cell_at plant (cell_of plant part)) (state.below (cell_of plant part))
          (Load part.job (visit_at plant (stage_of part))) ≡ Granted
      next_granted =
          one_more-granted (cell_at plant (cell_of plant part)) (fits.cells (cell_of plant part) next_within)
          (exit_of plant (cell_of plant part))
          (fits.rules routes_end_at_the_exit tt (cell_of plant part) next_within) (state.below (cell_of plant part)) (is.below (cell_of plant part) next_within) exits
          next_few part.job (visit_at plant (stage_of part)) next_absent (visit_fits plant fits state is part next_above)

      pub next_enters : step_outcome plant state (enter (cell_of plant part)) ≡ Some after_next
      next_enters =
          ap (option_and_then (after_entry plant state)) next_first
          ∙ ap (option_and_then (λ (ps : List Part).
          let s : PlantState = record {
            above = state.above;
            below = with_parts state.below (cell_of plant part) ps;
          } in Some s))
          (granted_parts-some (cell_at plant (cell_of plant part)) (state.below (cell_of plant part))
          (Load part.job (visit_at plant (stage_of part))) next_granted)

pub entry_law : (plant : Plant) → PlantFits plant → EntryLaw plant
entry_law plant fits state is tidy part next = record {
  few = next_few plant fits state is tidy part next;
  enters = λ exits. (after_next plant fits state is tidy part next, next_enters plant fits state is tidy part next exits);
}
