-- Standstills: a few tests that can be computed say of a state that no step is granted there, of whatever job. What is asked for a job
-- that has no part a controller refuses, so it is enough to ask for the jobs of the parts. A load is refused for what it would overfill.
use Rattle.std.proofs.Common.{◌≡◌, ℕ, ◌<◌, Bool, true, false, not, cond, ◌&&◌, nat_lt, Option, Some, None, List, [], ◌∷◌, ◌++◌}
use Rattle.std.proofs.Common.{length, Contains, ap, refl, sym, subst, ◌∙◌}
use Rattle.std.specs.Prelude.{unwrap_or}
use Rattle.std.specs.List.{list_all, range_with_len}
use Rattle.std.specs.Option.{is_some, is_none, option_and_then}
use Rattle.std.proofs.lemmas.Bool.{and_parts, cond_both, false≢true, not-true}
use Rattle.std.proofs.lemmas.Option.{none-some, same_Some}
use Rattle.std.proofs.lemmas.List.Elements.{All-head}
use Rattle.std.proofs.lemmas.List.Sums.{AllPass-from_list_all}
use Rattle.cell_base.specs.declared.limits.TheConstants.{MAX_BRANCHES}
use Rattle.cell_base.specs.declared.cells.Cell.{Cell}
use Rattle.cell_base.specs.declared.cells.TypeId.{TypeId}
use Rattle.cell_base.specs.declared.requests.JobId.{JobId}
use Rattle.cell_base.specs.declared.requests.Part.{Part}
use Rattle.cell_base.specs.declared.requests.Request.{Request}
use Rattle.cell_base.specs.declared.requests.Request.TheVariants.{Load, Move, Unload}
use Rattle.cell_base.specs.declared.requests.Refusal.TheVariants.{JobLoaded}
use Rattle.cell_base.specs.Stages.{resource_numbers}
use Rattle.cell_base.specs.Policy.{is_loaded}
use Rattle.cell_base.specs.Outcomes.{part_of, arrival, refuse, admit, reply_to, state_after, outcome_of_move, outcome_of_unload}
use Rattle.cell_base.specs.Histories.{is_granted}
use Rattle.cell_base.proofs.Admission.{each_number}
use Rattle.lists.proofs.Elements.{list_all-Contains}
use Rattle.policy_laws.proofs.Parts.{part_of-found}
use Rattle.plant_laws.specs.declared.plants.Plant.{Plant}
use Rattle.plant_laws.specs.Plants.{IsCell, cell_at}
use Rattle.plant_laws.specs.PlantStates.{PlantState, no_parts, has_arrived, stands_nowhere, stands_once, is_over}
use Rattle.plant_laws.specs.PlantSteps.{CellStep, process, move, request_of}
use Rattle.plant_laws.specs.PlantSteps.{PlantStep, load, enter, work_in, clear, pass_on, let_out, StepFits, Practice, step_outcome}
use Rattle.plant_laws.specs.PlantSteps.{granted_parts, after_above, after_below, only_if, where_arrived, granted_in_turn}
use Rattle.plant_laws.specs.PlantLaws.{CanBeEmptiedBy}
use Rattle.plant_laws.specs.SmallPlant.{kind}
use Rattle.plant_laws.specs.Standstills.{Trial, Stops, last_enters, passed_at_once, loaded_at_once}

none_from : (o : Option PlantState) → is_none o ≡ true → o ≡ None
none_from None e = refl
none_from (Some next) e = absurd (false≢true e)

some_from : (o : Option PlantState) → is_some o ≡ true → o ≡ Some (unwrap_or o no_parts)
some_from None e = absurd (false≢true e)
some_from (Some next) e = refl

-- a controller refuses a request
abbrev Refuses : Cell → List Part → Request → Type 0
Refuses cell parts request = is_granted (reply_to cell parts request) ≡ false

-- a practice grants nothing that a controller refuses; of an entry nothing is said
pub record HeedsRefusals (practice : Practice) (plant : Plant) : Type 0 where
  pub loads : (state : PlantState) (job : JobId) (kind : TypeId) → Refuses plant.above state.above (Load job kind)
      → practice state (load job kind) ≡ None
  pub works : (state : PlantState) (c : ℕ) (step : CellStep) → Refuses (cell_at plant c) (state.below c) (request_of step)
      → practice state (work_in c step) ≡ None
  pub clears : (state : PlantState) (c : ℕ) (job : JobId) → Refuses (cell_at plant c) (state.below c) (Unload job)
      → practice state (clear c job) ≡ None
  pub passes : (state : PlantState) (job : JobId) (branch : ℕ) → Refuses plant.above state.above (Move job branch)
      → practice state (pass_on job branch) ≡ None
  pub lets : (state : PlantState) (job : JobId) → Refuses plant.above state.above (Unload job) → practice state (let_out job) ≡ None

module _ (plant : Plant) where
  no_parts_after : (cell : Cell) (parts : List Part) (request : Request) → Refuses cell parts request
      → granted_parts cell parts request ≡ None
  no_parts_after cell parts request e = ap (λ b. cond b (Some (state_after cell parts request)) None) e

  none_above : (state : PlantState) (request : Request) → Refuses plant.above state.above request → after_above plant state request ≡ None
  none_above state request e =
      ap (option_and_then (λ (ps : List Part). let s : PlantState = record { above = ps; below = state.below } in Some s))
      (no_parts_after plant.above state.above request e)

  none_below : (state : PlantState) (c : ℕ) (request : Request) → Refuses (cell_at plant c) (state.below c) request
      → after_below plant state c request ≡ None
  none_below state c request e = rw (no_parts_after (cell_at plant c) (state.below c) request e) refl

  none_asked : (test : Bool) (next : Option PlantState) → next ≡ None → only_if test next ≡ None
  none_asked true next e = e
  none_asked false next e = refl

  none_arrived : (state : PlantState) (job : JobId) (next : Part → Option PlantState) → ((part : Part) → next part ≡ None)
      → where_arrived plant state job next ≡ None
  none_arrived state job next none = at (part_of state.above job)
    where
      at : (o : Option Part) → option_and_then (λ part. only_if (has_arrived plant state part) (next part)) o ≡ None
      at None = refl
      at (Some part) = none_asked (has_arrived plant state part) (next part) (none part)

  pub rules_heed : HeedsRefusals (step_outcome plant) plant
  rules_heed = record {
    loads = λ state job kind e. none_asked (stands_nowhere plant state job) _ (none_above state (Load job kind) e);
    works = λ state c step e. none_below state c (request_of step) e;
    clears = λ state c job e. none_asked (is_over plant state c job) _ (none_below state c (Unload job) e);
    passes = λ state job branch e. none_arrived state job _
        (λ part. none_asked (stands_once plant state part) _ (none_above state (Move job branch) e));
    lets = λ state job e. none_arrived state job _ (λ part. none_above state (Unload job) e);
  }

  pub last_enters_heeds : HeedsRefusals (last_enters plant) plant
  last_enters_heeds = record {
    loads = rules_heed.loads;
    works = rules_heed.works;
    clears = rules_heed.clears;
    passes = rules_heed.passes;
    lets = rules_heed.lets;
  }

  pub passed_at_once_heeds : HeedsRefusals (passed_at_once plant) plant
  passed_at_once_heeds = record {
    loads = rules_heed.loads;
    works = rules_heed.works;
    clears = rules_heed.clears;
    passes = λ state job branch e. none_arrived state job _ (λ part. none_above state (Move job branch) e);
    lets = rules_heed.lets;
  }

  pub loaded_at_once_heeds : HeedsRefusals (loaded_at_once plant) plant
  loaded_at_once_heeds = record {
    loads = λ state job kind e. none_above state (Load job kind) e;
    works = rules_heed.works;
    clears = rules_heed.clears;
    passes = rules_heed.passes;
    lets = rules_heed.lets;
  }

module _ (practice : Practice) (plant : Plant) (state : PlantState) where
  abbrev is_refused : PlantStep → Bool
  is_refused step = is_none (practice state step)

  -- a load of a type would overfill some cell
  abbrev load_refused : JobId → ℕ → Bool
  load_refused job n =
      not (is_granted (admit plant.above state.above (state.above ++ arrival plant.above job (kind n) 0 ∷ [])).0)

  -- what is asked of the plant for the job of a part
  abbrev pass_refused : Part → ℕ → Bool
  pass_refused part branch = is_refused (pass_on part.job branch)

  abbrev part_refused : Part → Bool
  part_refused part = is_refused (let_out part.job) && list_all (pass_refused part) (range_with_len 0 MAX_BRANCHES)

  -- what is asked of a cell for the job of a part
  abbrev move_refused : ℕ → Part → ℕ → Bool
  move_refused c part branch = is_refused (work_in c (move part.job branch))

  abbrev part_below_refused : ℕ → Part → Bool
  part_below_refused c part = is_refused (clear c part.job) && list_all (move_refused c part) (range_with_len 0 MAX_BRANCHES)

  -- what is asked of a cell
  abbrev process_refused : ℕ → ℕ → Bool
  process_refused c r = is_refused (work_in c (process (record { 0 = r })))

  abbrev cell_refused : ℕ → Bool
  cell_refused c =
      is_refused (enter c)
      && (list_all (process_refused c) (resource_numbers (cell_at plant c)) && list_all (part_below_refused c) (state.below c))

  -- parts are in the plant, and all of this is refused
  abbrev pub is_stuck : JobId → Bool
  is_stuck job =
      nat_lt 0 (length state.above)
      && (list_all (load_refused job) (range_with_len 0 (length plant.above.types))
      && (list_all part_refused state.above && list_all cell_refused (range_with_len 0 (length plant.cells))))

-- each of the first numbers passes a test
passes_each : (p : ℕ → Bool) (n : ℕ) → list_all p (range_with_len 0 n) ≡ true → (k : ℕ) → k < n → p k ≡ true
passes_each p n e = each_number n (λ k. p k ≡ true) (AllPass-from_list_all p (range_with_len 0 n) e)

module _ (practice : Practice) (plant : Plant) (heeds : HeedsRefusals practice plant) (state : PlantState)
    (stuck : (job : JobId) → is_stuck practice plant state job ≡ true) where
  -- the tests one by one
  tests : (job : JobId) → (nat_lt 0 (length state.above) ≡ true)
      × (list_all (load_refused practice plant state job) (range_with_len 0 (length plant.above.types)) ≡ true)
      × (list_all (part_refused practice plant state) state.above ≡ true)
      × (list_all (cell_refused practice plant state) (range_with_len 0 (length plant.cells)) ≡ true)
  tests job =
      let first = and_parts _ _ (stuck job) in
      let second = and_parts _ _ first.1 in
      let third = and_parts _ _ second.1 in
      (first.0, second.0, third.0, third.1)

  load_none : (job : JobId) (kind : TypeId) → kind.0 < length plant.above.types → practice state (load job kind) ≡ None
  load_none job kind within =
      let part : Part = arrival plant.above job kind 0 in
      let over = passes_each (load_refused practice plant state job) (length plant.above.types) (tests job).1 kind.0 within in
      heeds.loads state job kind
      (cond_both (is_loaded state.above job) (refuse JobLoaded state.above) (admit plant.above state.above (state.above ++ part ∷ []))
      (λ o. is_granted o.0 ≡ false) (λ e. refl) (λ e. not-true _ over))

  -- what is asked for a job, where it is refused for the job of each part
  of_each : (ask : JobId → PlantStep) (parts : List Part) → ((job : JobId) → part_of parts job ≡ None → practice state (ask job) ≡ None)
      → ((part : Part) → Contains parts part → is_none (practice state (ask part.job)) ≡ true) → (job : JobId)
      → practice state (ask job) ≡ None
  of_each ask parts strangers own job = at (part_of parts job) refl
    where
      at : (o : Option Part) → part_of parts job ≡ o → practice state (ask job) ≡ None
      at None e = strangers job e
      at (Some part) e =
          let found = part_of-found parts job part e in
          subst (λ (j : JobId). practice state (ask j) ≡ None) found.1 (none_from _ (own part found.0))

  above_none : (part : Part) → Contains state.above part → (is_refused practice plant state (let_out part.job) ≡ true)
      × (list_all (pass_refused practice plant state part) (range_with_len 0 MAX_BRANCHES) ≡ true)
  above_none part at =
      and_parts _ _ (list_all-Contains (part_refused practice plant state) state.above part (tests part.job).2 at)

  cell_none : (c : ℕ) → IsCell plant c → (is_refused practice plant state (enter c) ≡ true)
      × (list_all (process_refused practice plant state c) (resource_numbers (cell_at plant c)) ≡ true)
      × (list_all (part_below_refused practice plant state c) (state.below c) ≡ true)
  cell_none c within =
      let first =
      and_parts _ _ (passes_each (cell_refused practice plant state) (length plant.cells) (tests (record { 0 = 0 })).3 c within) in
      let second = and_parts _ _ first.1 in
      (first.0, second.0, second.1)

  below_none : (c : ℕ) → IsCell plant c → (part : Part) → Contains (state.below c) part
      → (is_refused practice plant state (clear c part.job) ≡ true)
      × (list_all (move_refused practice plant state c part) (range_with_len 0 MAX_BRANCHES) ≡ true)
  below_none c within part at =
      and_parts _ _ (list_all-Contains (part_below_refused practice plant state c) (state.below c) part (cell_none c within).2 at)

  refused : (step : PlantStep) → StepFits plant step → practice state step ≡ None
  refused (load job kind) fit = load_none job kind fit
  refused (enter c) fit = none_from _ (cell_none c fit).0
  refused (work_in c (process machine)) (within, fit) =
      none_from _
      (passes_each (process_refused practice plant state c) (length (cell_at plant c).resources) (cell_none c within).1 machine.0 fit)
  refused (work_in c (move job branch)) (within, fit) =
      of_each (λ j. work_in c (move j branch)) (state.below c)
      (λ j e. heeds.works state c (move j branch) (ap (λ o. is_granted (outcome_of_move (cell_at plant c) (state.below c) o branch).0) e))
      (λ part at. passes_each (move_refused practice plant state c part) MAX_BRANCHES (below_none c within part at).1 branch fit) job
  refused (clear c job) fit =
      of_each (clear c) (state.below c)
      (λ j e. heeds.clears state c j (ap (λ o. is_granted (outcome_of_unload (cell_at plant c) (state.below c) o).0) e))
      (λ part at. (below_none c fit part at).0) job
  refused (pass_on job branch) fit =
      of_each (λ j. pass_on j branch) state.above
      (λ j e. heeds.passes state j branch (ap (λ o. is_granted (outcome_of_move plant.above state.above o branch).0) e))
      (λ part at. passes_each (pass_refused practice plant state part) MAX_BRANCHES (above_none part at).1 branch fit) job
  refused (let_out job) fit =
      of_each let_out state.above
      (λ j e. heeds.lets state j (ap (λ o. is_granted (outcome_of_unload plant.above state.above o).0) e))
      (λ part at. (above_none part at).0) job

  never_emptied : ¬ CanBeEmptiedBy practice plant state
  never_emptied ([], next, granted, emptied) =
      false≢true (sym (ap (λ (s : PlantState). nat_lt 0 (length s.above)) (same_Some state next granted.granted)
      ∙ ap (λ (ps : List Part). nat_lt 0 (length ps)) emptied.above) ∙ (tests (record { 0 = 0 })).0)
  never_emptied (step ∷ steps, next, granted, emptied) =
      let none = refused step (All-head (StepFits plant) step steps granted.fit) in
      none-some next (sym (ap (option_and_then (λ s. granted_in_turn practice s steps)) none) ∙ granted.granted)

pub stops : (trial : Trial) → HeedsRefusals trial.practice trial.plant
    → is_some (granted_in_turn trial.practice no_parts trial.steps) ≡ true
    → ((job : JobId)
    → is_stuck trial.practice trial.plant (unwrap_or (granted_in_turn trial.practice no_parts trial.steps) no_parts) job ≡ true)
    → Stops trial
stops trial heeds granted stuck =
    let state : PlantState = unwrap_or (granted_in_turn trial.practice no_parts trial.steps) no_parts in (
      state,
      some_from (granted_in_turn trial.practice no_parts trial.steps) granted,
      record {
        refused = refused trial.practice trial.plant heeds state stuck;
        never_emptied = never_emptied trial.practice trial.plant heeds state stuck;
      },
    )
