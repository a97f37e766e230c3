-- Emptying: from each state of a plant some list of granted steps empties it. First what is over is unloaded. While a part is queued, the
-- first of the queue enters its cell. Then the plan of the plant's own controller goes on by a step.
use Rattle.std.proofs.Common.{◌≡◌, ℕ, zero, suc, ◌+◌, ◌≤◌, true, false, not, ◌⊎◌, inl, inr, Option, Some, None, List, [], All}
use Rattle.std.proofs.Common.{Contains, ap, refl, sym, subst, arith, ◌∙◌, lit<, ◌==◌, ◌||◌, ⊎_elim}
use Rattle.std.proofs.Common.{length}
use Rattle.std.specs.List.{count_by, range_with_len}
use Rattle.std.specs.Option.{option_and_then, option_map_or}
use Rattle.std.proofs.lemmas.Bool.{cases_Bool, not-false, not_from_true, eq-eqb, false≢true}
use Rattle.std.proofs.lemmas.Bool.{not_from_false, and_from}
use Rattle.std.proofs.lemmas.Bool.{or_left, or_right}
use Rattle.std.proofs.lemmas.List.Elements.{All-contains}
use Rattle.std.proofs.lemmas.List.Sums.{list_all-from_AllPass}
use Rattle.cell_base.specs.declared.cells.TypeId.{TypeId}
use Rattle.cell_base.specs.declared.requests.Part.{Part}
use Rattle.cell_base.specs.declared.requests.Request.{Request}
use Rattle.cell_base.specs.declared.requests.Request.TheVariants.{Load, Move, Unload}
use Rattle.cell_base.specs.Stages.{stage_of, is_last}
use Rattle.cell_base.specs.Outcomes.{arrival, state_after}
use Rattle.cell_base.specs.Plans.{plan_step, step_of, work}
use Rattle.lists.proofs.Elements.{find_agree, All-find_none, All-from_Contains, find_passes}
use Rattle.cell_base.proofs.Admission.{all_numbers}
use Rattle.cell_base.specs.declared.requests.JobId.{JobId}
use Rattle.cell_base.specs.Policy.{is_loaded}
use Rattle.policy_laws.specs.Laws.{Advances}
use Rattle.policy_laws.proofs.Parts.{part_of-job, part_of-found}
use Rattle.policy_laws.proofs.Picks.{plan_step-none, plan_step-picked}
use Rattle.policy_laws.proofs.Plans.{plan_step_advances}
use Rattle.policy_laws.proofs.Decisions.{decision_law}
use Rattle.plant_laws.specs.declared.plants.Plant.{Plant}
use Rattle.plant_laws.specs.Plants.{IsCell, cell_at, cell_of, visit_at, is_at_exit, PlantFits}
use Rattle.plant_laws.specs.PlantStates.{PlantState, is_queued, next_queued, IsPlantState, IsEmptied, IsTidy}
use Rattle.plant_laws.specs.PlantStates.{has_arrived, ends_visit, stands_once, stands_in}
use Rattle.plant_laws.specs.PlantLaws.{PlantLaw}
use Rattle.plant_laws.proofs.Jobs.{part_of_loaded}
use Rattle.plant_laws.proofs.Splits.{count_by-le, count_by-lt, nil_from_none}
use Rattle.plant_laws.proofs.Standing.{cell_within}
use Rattle.plant_laws.proofs.Entering.{entered, entered_queued, entered_new}
use Rattle.plant_laws.proofs.Keeping.{state_law, visit_fits}
use Rattle.plant_laws.proofs.Reaching.{Reaches, reach_here, reach_by, reach_both, granted_parts-some, gather}
use Rattle.plant_laws.proofs.Entry.{settled_few, next_few, next_first, next_granted, next_enters, next_above, next_within, after_next}
use Rattle.plant_laws.proofs.Entry.{stands-belongs, jobs_above}
use Rattle.plant_laws.specs.PlantSteps.{PlantStep, enter, pass_on, let_out, StepFits, with_parts, after_above, only_if, where_arrived}
use Rattle.plant_laws.specs.PlantSteps.{step_outcome}
use Rattle.plant_laws.proofs.Tidying.{tidy_up, over_same}

module _ (plant : Plant) (fits : PlantFits plant) where
  -- some list of granted steps empties the plant
  abbrev Empties : PlantState → Type 0
  Empties state = (next : PlantState) × Reaches plant state next × IsEmptied plant next

  empties_on : (state mid : PlantState) → Reaches plant state mid → Empties mid → Empties state
  empties_on state mid reaches (next, rest, emptied) = (next, reach_both plant state mid next reaches rest, emptied)

  -- how many parts are queued
  abbrev queued : PlantState → ℕ
  queued state = count_by (is_queued plant state) state.above

  -- a queue with one part fewer, after some granted steps
  abbrev Shortens : PlantState → Type 0
  Shortens state =
      (next : PlantState) × Reaches plant state next × IsPlantState plant next × (next.above ≡ state.above)
      × (queued next + 1 ≤ queued state)

  -- one step of the plant's plan fewer, after some granted steps
  abbrev Lessens : PlantState → Type 0
  Lessens state =
      (next : PlantState) × Reaches plant state next × IsPlantState plant next
      × (work plant.above next.above + 1 ≡ work plant.above state.above)

  module _ (state : PlantState) (is : IsPlantState plant state) (tidy : IsTidy plant state) where
    -- a plant with no part is empty below too
    emptied : state.above ≡ [] → IsEmptied plant state
    emptied none = record {
      above = none;
      below = λ c within. nil_from_none (state.below c) (λ q at.
          false≢true (sym (ap (λ ps. is_loaded ps q.job) none) ∙ jobs_above plant fits state is tidy c within q at));
    }

    -- after the entry of the first of the queue
    shorter : (part : Part) → (first : next_queued plant state ≡ Some part)
        → All (λ q. is_at_exit (cell_at plant (cell_of plant part)) q ≡ true) (state.below (cell_of plant part)) → Shortens state
    shorter part first exits =
        let c : ℕ = cell_of plant part in
        let after : PlantState = after_next plant fits state is tidy part first in
        let enters = next_enters plant fits state is tidy part first exits in
        let is_after : IsPlantState plant after =
        state_law plant fits state is (enter c) (next_within plant fits state is tidy part first) after enters in (
          after,
          reach_by plant state after after (enter c) (next_within plant fits state is tidy part first) enters (reach_here plant after),
          is_after,
          refl,
          fewer,
        )
      where
        fewer : queued (after_next plant fits state is tidy part first) + 1 ≤ queued state
        fewer =
            let c : ℕ = cell_of plant part in
            let within : IsCell plant c = next_within plant fits state is tidy part first in
            let at : Contains state.above part = next_above plant fits state is tidy part first in
            let own = next_first plant fits state is tidy part first in
            let decided = decision_law (cell_at plant c) (fits.cells c within) (state.below c) (is.below c within)
            (Load part.job (visit_at plant (stage_of part))) (visit_fits plant fits state is part at) in
            let granted = next_granted plant fits state is tidy part first exits in
            let admitted = (decided.reply.granted.0 granted).1 in
            let new : Part = arrival (cell_at plant c) part.job (visit_at plant (stage_of part)) 0 in
            subst (λ (ps : List Part).
            queued (record { above = state.above; below = with_parts state.below c ps }) + 1 ≤ queued state)
            (sym (decided.state granted))
            (count_by-lt (is_queued plant (entered plant fits state is part own new refl refl admitted))
            (is_queued plant state) state.above part
            (λ b at_b e. entered_queued plant fits state is part own new refl refl admitted b at_b e) at
            (not_from_true _ (entered_new plant fits state is part own new refl refl admitted))
            (find_passes (is_queued plant state) state.above part first))

    -- a part that isn't queued is done and at the exit of its cell, where all of that cell's are
    arrived : (part : Part) → Contains state.above part → is_queued plant state part ≡ false
        → All (λ q. is_at_exit (cell_at plant (cell_of plant part)) q ≡ true) (state.below (cell_of plant part))
        → has_arrived plant state part ≡ true
    arrived part at settled exits =
        let c : ℕ = cell_of plant part in
        let within : IsCell plant c = cell_within plant fits state.above part is.above at in
        let found = part_of_loaded (state.below c) part.job (is.below c within).state.distinct (not-false _ settled) in
        let there = part_of-found (state.below c) part.job found.0 found.1 in
        let visit = (is.held c within found.0 there.0).visit part at (sym there.1) refl in
        ap (λ (o : Option Part). option_map_or (ends_visit plant part) o false) found.1
        ∙ and_from _ _ (All-contains (λ q. is_at_exit (cell_at plant c) q ≡ true) (state.below c) found.0 exits there.0)
        (eq-eqb _ _ (ap (λ (kind : TypeId). kind.0) visit))

    -- a part that isn't queued stands nowhere else
    alone : (part : Part) → Contains state.above part → is_queued plant state part ≡ false → stands_once plant state part ≡ true
    alone part at settled =
        list_all-from_AllPass (λ c. (c == cell_of plant part) || not (stands_in state c part)) (range_with_len 0 (length plant.cells))
        (all_numbers (length plant.cells) (λ c. ((c == cell_of plant part) || not (stands_in state c part)) ≡ true) (λ c within.
        ⊎_elim
        (λ there. or_left _ _ (eq-eqb _ _ (sym (stands-belongs plant fits state is tidy c within part at settled there))))
        (λ away. or_right _ _ (not_from_false _ away)) (cases_Bool (stands_in state c part))))

    -- what is asked for the job of a part that arrived is not held back
    let_by : (part : Part) → Contains state.above part → has_arrived plant state part ≡ true → (f : Part → Option PlantState)
        → where_arrived plant state part.job f ≡ f part
    let_by part at here f =
        ap (option_and_then (λ (p : Part). only_if (has_arrived plant state p) (f p)))
        (part_of-job state.above part is.above.state.distinct at)
        ∙ ap (λ b. only_if b (f part)) here

    -- a step of the plant's plan, once its part arrived
    lessens_by : (part : Part) → Contains state.above part → has_arrived plant state part ≡ true → stands_once plant state part ≡ true
        → Advances plant.above state.above (step_of plant.above part) → Lessens state
    lessens_by part at here single advances = by (cases_Bool (is_last plant.above (stage_of part)))
      where
        done : part.done ≡ true
        done = All-contains (λ (p : Part). p.done ≡ true) state.above part is.done at

        reached : (step : PlantStep) (next : PlantState) → StepFits plant step → step_outcome plant state step ≡ Some next
            → work plant.above next.above + 1 ≡ work plant.above state.above → Lessens state
        reached step next fit granted less = (
          next,
          reach_by plant state next next step fit granted (reach_here plant next),
          state_law plant fits state is step fit next granted,
          less,
        )

        by : (is_last plant.above (stage_of part) ≡ true) ⊎ (is_last plant.above (stage_of part) ≡ false) → Lessens state
        by (inl last) =
            let asked : step_of plant.above part ≡ Unload part.job = rw (done, last) refl in
            let unload : Advances plant.above state.above (Unload part.job) = subst (Advances plant.above state.above) asked advances in
            reached (let_out part.job) (record { above = state_after plant.above state.above (Unload part.job); below = state.below }) tt
            (let_by part at here (λ p. after_above plant state (Unload part.job))
            ∙ ap (option_and_then (λ (ps : List Part). let s : PlantState = record { above = ps; below = state.below } in Some s))
            (granted_parts-some plant.above state.above (Unload part.job) unload.granted))
            unload.nearer
        by (inr more) =
            let asked : step_of plant.above part ≡ Move part.job 0 = rw (done, more) refl in
            let move : Advances plant.above state.above (Move part.job 0) = subst (Advances plant.above state.above) asked advances in
            reached (pass_on part.job 0) (record { above = state_after plant.above state.above (Move part.job 0); below = state.below })
            (lit< tt)
            (let_by part at here (λ p. only_if (stands_once plant state p) (after_above plant state (Move part.job 0)))
            ∙ ap (λ b. only_if b (after_above plant state (Move part.job 0))) single
            ∙ ap (option_and_then (λ (ps : List Part). let s : PlantState = record { above = ps; below = state.below } in Some s))
            (granted_parts-some plant.above state.above (Move part.job 0) move.granted))
            move.nearer

  -- where the same jobs stand nothing more is over
  tidy_still : (state : PlantState) (next : ℕ → List Part) → IsTidy plant state
      → ((d : ℕ) (job : JobId) → is_loaded (next d) job ≡ is_loaded (state.below d) job)
      → IsTidy plant (record { above = state.above; below = next })
  tidy_still state next tidy same c within job e =
      over_same plant fits state.above state.below next (λ b at. same (cell_of plant b) b.job) c job
      ∙ tidy c within job (sym (same c job) ∙ e)

  -- the first of the queue enters its cell once that brought its parts to the exit
  shortens : (state : PlantState) → IsPlantState plant state → IsTidy plant state → (part : Part) → next_queued plant state ≡ Some part
      → Shortens state
  shortens state is tidy part first =
      let c : ℕ = cell_of plant part in
      let within : IsCell plant c = next_within plant fits state is tidy part first in
      let gathered = gather plant fits c within state.above state.below is (omega (arith, next_few plant fits state is tidy part first)) in
      let mid : PlantState = record { above = state.above; below = gathered.0 } in
      let same : (x : Part) → is_queued plant mid x ≡ is_queued plant state x =
      λ x. ap not (gathered.1.jobs (cell_of plant x) x.job) in
      let still : next_queued plant mid ≡ Some part =
      find_agree (is_queued plant mid) (is_queued plant state) state.above
      (All-from_Contains (λ x. is_queued plant mid x ≡ is_queued plant state x) state.above (λ x at. same x)) ∙ first in
      let after = shorter mid gathered.1.is (tidy_still state gathered.0 tidy gathered.1.jobs) part still gathered.1.exits in
      let no_more : queued mid ≤ queued state =
      count_by-le (is_queued plant mid) (is_queued plant state) state.above (λ x at e. sym (same x) ∙ e) in
      let fewer : queued after.0 + 1 ≤ queued mid = after.4 in
      (after.0, reach_both plant state mid after.0 gathered.1.reaches after.1, after.2, after.3, omega (arith, fewer, no_more))

  -- with no queue the part that the plan picks goes on once its cell brought its parts to the exit
  lessens : (state : PlantState) → IsPlantState plant state → IsTidy plant state → next_queued plant state ≡ None → (request : Request)
      → plan_step plant.above state.above ≡ Some request → Lessens state
  lessens state is tidy none request e =
      let picked = plan_step-picked plant.above state.above request e in
      let part : Part = picked.0 in
      let at : Contains state.above part = picked.1.stands in
      let settled : (x : Part) → Contains state.above x → is_queued plant state x ≡ false =
      λ x at. All-contains (λ x. is_queued plant state x ≡ false) state.above x
      (All-find_none (is_queued plant state) state.above none) at in
      let c : ℕ = cell_of plant part in
      let within : IsCell plant c = cell_within plant fits state.above part is.above at in
      let gathered = gather plant fits c within state.above state.below is (settled_few plant fits state is tidy c within settled) in
      let mid : PlantState = record { above = state.above; below = gathered.0 } in
      let still : is_queued plant mid part ≡ false = ap not (gathered.1.jobs c part.job) ∙ settled part at in
      let advances : Advances plant.above state.above (step_of plant.above part) =
      plan_step_advances plant.above fits.above state.above is.above (step_of plant.above part) (e ∙ ap Some (sym picked.2)) in
      let tidy_mid : IsTidy plant mid = tidy_still state gathered.0 tidy gathered.1.jobs in
      let after = lessens_by mid gathered.1.is tidy_mid part at (arrived mid gathered.1.is tidy_mid part at still gathered.1.exits)
      (alone mid gathered.1.is tidy_mid part at still) advances in
      (after.0, reach_both plant state mid after.0 gathered.1.reaches after.1, after.2, after.3)

  -- what is left to empty has less work above
  abbrev EmptiesBelow : ℕ → Type 0
  EmptiesBelow w = (next : PlantState) → IsPlantState plant next → work plant.above next.above + 1 ≤ w → Empties next

  -- with no queue, by the work left above
  by_plan : (w : ℕ) → EmptiesBelow w → (state : PlantState) → IsPlantState plant state → IsTidy plant state
      → work plant.above state.above ≤ w → next_queued plant state ≡ None → Empties state
  by_plan w later state is tidy few none = at (plan_step plant.above state.above) refl
    where
      at : (o : Option Request) → plan_step plant.above state.above ≡ o → Empties state
      at None e = (state, reach_here plant state, emptied state is tidy (plan_step-none plant.above state.above e))
      at (Some request) e =
          let after = lessens state is tidy none request e in
          let less : work plant.above after.0.above + 1 ≡ work plant.above state.above = after.3 in
          empties_on state after.0 after.1 (later after.0 after.2 (omega (arith, less, few)))

  -- once all is tidy
  once_tidy : (state : PlantState) → IsPlantState plant state
      → ((next : PlantState) → IsPlantState plant next → IsTidy plant next → next.above ≡ state.above → queued next ≤ queued state
      → Empties next)
      → Empties state
  once_tidy state is later =
      let tidied = tidy_up plant fits state.above state.below is in
      let next : PlantState = record { above = state.above; below = tidied.0 } in
      empties_on state next tidied.1.reaches (later next tidied.1.is tidied.1.tidy refl
      (count_by-le (is_queued plant next) (is_queued plant state) state.above (λ x at e. ap not (sym (tidied.1.same x at)) ∙ e)))

  -- by the length of the queue
  by_queue : (w q : ℕ) → EmptiesBelow w → (state : PlantState) → IsPlantState plant state → work plant.above state.above ≤ w
      → queued state ≤ q → Empties state
  by_queue w zero later state is few short = once_tidy state is tidied
    where
      tidied : (tidy : PlantState) → IsPlantState plant tidy → IsTidy plant tidy → tidy.above ≡ state.above → queued tidy ≤ queued state
          → Empties tidy
      tidied state' is' tidy same no_more = at (next_queued plant state') refl
        where
          at : (o : Option Part) → next_queued plant state' ≡ o → Empties state'
          at None e = by_plan w later state' is' tidy (omega (arith, few, ap (work plant.above) same)) e
          at (Some part) e =
              let after = shortens state' is' tidy part e in
              let fewer : queued after.0 + 1 ≤ queued state' = after.4 in absurd (omega (arith, fewer, short, no_more))
  by_queue w (suc q) later state is few short = once_tidy state is (tidied (by_queue w q later))
    where
      tidied : ((next : PlantState) → IsPlantState plant next → work plant.above next.above ≤ w → queued next ≤ q → Empties next)
          → (tidy : PlantState) → IsPlantState plant tidy → IsTidy plant tidy → tidy.above ≡ state.above → queued tidy ≤ queued state
          → Empties tidy
      tidied shorter_queue state' is' tidy same no_more = at (next_queued plant state') refl
        where
          at : (o : Option Part) → next_queued plant state' ≡ o → Empties state'
          at None e = by_plan w later state' is' tidy (omega (arith, few, ap (work plant.above) same)) e
          at (Some part) e =
              let after = shortens state' is' tidy part e in
              let fewer : queued after.0 + 1 ≤ queued state' = after.4 in
              empties_on state' after.0 after.1
              (shorter_queue after.0 after.2 (omega (arith, few, ap (work plant.above) same, ap (work plant.above) after.3))
              (omega (arith, fewer, short, no_more)))

  by_work : (w : ℕ) (state : PlantState) → IsPlantState plant state → work plant.above state.above ≤ w → Empties state
  by_work zero state is few =
      by_queue zero (queued state) (λ next is less. absurd (omega (arith, less))) state is few (omega arith)
  by_work (suc w) state is few =
      by_queue (suc w) (queued state) (λ next is less. by_work w next is (omega (arith, less))) state is few (omega arith)

pub plant_law : (plant : Plant) → PlantFits plant → PlantLaw plant
plant_law plant fits state is =
    let empties = by_work plant fits (work plant.above state.above) state is (omega arith) in
    (empties.1.0, empties.0, empties.1.1, empties.2)
