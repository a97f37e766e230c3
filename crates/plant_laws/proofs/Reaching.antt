-- Reaching: lists of granted steps, one after the other, and those that bring the parts of a cell to its exit.
use Rattle.std.proofs.Common.{◌≡◌, ℕ, ◌≤◌, true, cond, Some, None, List, [], ◌∷◌, ◌++◌, length, map}
use Rattle.std.proofs.Common.{All, ap, refl, sym, subst, ◌∙◌}
use Rattle.std.specs.Option.{option_and_then}
use Rattle.std.proofs.lemmas.Bool.{and_parts, eq-eqb}
use Rattle.std.proofs.lemmas.Option.{option_and_then_some, same_Some}
use Rattle.std.proofs.lemmas.List.Elements.{All-nil, All-cons, All-head, All-tail, All-append}
use Rattle.cell_base.specs.declared.cells.Cell.{Cell}
use Rattle.cell_base.specs.declared.requests.JobId.{JobId}
use Rattle.cell_base.specs.declared.requests.Part.{Part}
use Rattle.cell_base.specs.declared.requests.Request.{Request}
use Rattle.cell_base.specs.declared.requests.Reply.TheVariants.{Granted}
use Rattle.cell_base.specs.Stages.{capacity_of}
use Rattle.cell_base.specs.Policy.{is_loaded}
use Rattle.cell_base.specs.Outcomes.{reply_to, state_after}
use Rattle.cell_base.specs.Histories.{is_granted, after_requests, all_granted}
use Rattle.cell_base.specs.Fits.{RequestFits}
use Rattle.policy_laws.proofs.Granting.{granted_alone}
use Rattle.plant_laws.specs.declared.plants.Plant.{Plant}
use Rattle.plant_laws.specs.Plants.{IsCell, cell_at, exit_of, is_at_exit, PlantFits, routes_end_at_the_exit}
use Rattle.plant_laws.specs.PlantStates.{PlantState, IsPlantState}
use Rattle.plant_laws.specs.PlantSteps.{CellStep, request_of, PlantStep, work_in, StepFits, with_parts, granted_parts}
use Rattle.plant_laws.specs.PlantSteps.{step_outcome, steps_outcome}
use Rattle.plant_laws.specs.PlantLaws.{AreGranted}
use Rattle.plant_laws.proofs.Gathering.{gather_law}
use Rattle.plant_laws.proofs.Working.{step_works, worked_jobs}
use Rattle.plant_laws.proofs.Keeping.{state_law}

-- some list of granted steps leads from one state to another
abbrev pub Reaches : Plant → PlantState → PlantState → Type 0
Reaches plant state next = (steps : List PlantStep) × AreGranted (step_outcome plant) plant state next steps

module _ (plant : Plant) where
  pub reach_here : (state : PlantState) → Reaches plant state state
  reach_here state = ([], record { fit = All-nil _; granted = refl })

  pub reach_by : (state mid next : PlantState) (step : PlantStep) → StepFits plant step → step_outcome plant state step ≡ Some mid
      → Reaches plant mid next → Reaches plant state next
  reach_by state mid next step fit granted (steps, leads) = (
    step ∷ steps,
    record {
      fit = All-cons (StepFits plant) step steps fit leads.fit;
      granted = ap (option_and_then (λ next. steps_outcome plant next steps)) granted ∙ leads.granted;
    },
  )

  outcome-append : (steps more : List PlantStep) (state mid next : PlantState) → steps_outcome plant state steps ≡ Some mid
      → steps_outcome plant mid more ≡ Some next → steps_outcome plant state (steps ++ more) ≡ Some next
  outcome-append [] more state mid next e f = ap (λ s. steps_outcome plant s more) (same_Some state mid e) ∙ f
  outcome-append (step ∷ steps) more state mid next e f = option_and_then_some (λ s. steps_outcome plant s steps)
      (step_outcome plant state step) mid e
      (λ first h k. ap (option_and_then (λ s. steps_outcome plant s (steps ++ more))) h ∙ outcome-append steps more first mid next k f)

  pub reach_both : (state mid next : PlantState) → Reaches plant state mid → Reaches plant mid next → Reaches plant state next
  reach_both state mid next (steps, one) (more, other) = (
    steps ++ more,
    record {
      fit = All-append (StepFits plant) steps more one.fit other.fit;
      granted = outcome-append steps more state mid next one.granted other.granted;
    },
  )

-- a granted request leaves the parts after it
pub granted_parts-some : (cell : Cell) (parts : List Part) (request : Request) → reply_to cell parts request ≡ Granted
    → granted_parts cell parts request ≡ Some (state_after cell parts request)
granted_parts-some cell parts request e = ap (λ reply. cond (is_granted reply) (Some (state_after cell parts request)) None) e

pub with_parts-here : (below : ℕ → List Part) (c : ℕ) (parts : List Part) → with_parts below c parts c ≡ parts
with_parts-here below c parts = ap (λ b. cond b parts (below c)) (eq-eqb c c refl)

module _ (plant : Plant) (fits : PlantFits plant) (c : ℕ) (within : IsCell plant c) (above : List Part) where
  abbrev with_below : (ℕ → List Part) → PlantState
  with_below below = record { above = above; below = below }

  -- the parts of the cells after steps of this cell alone: a state of the plant in which the same jobs stand
  pub record Worked (below next : ℕ → List Part) (parts : List Part) : Type 0 where
    pub reaches : Reaches plant (with_below below) (with_below next)
    pub is : IsPlantState plant (with_below next)
    pub jobs : (d : ℕ) (job : JobId) → is_loaded (next d) job ≡ is_loaded (below d) job
    pub leaves : next c ≡ parts

  work_through : (steps : List CellStep) (below : ℕ → List Part) → IsPlantState plant (with_below below)
      → All (λ step. RequestFits (cell_at plant c) (request_of step)) steps
      → all_granted (cell_at plant c) (below c) (map request_of steps) ≡ true
      → (next : ℕ → List Part) × Worked below next (after_requests (cell_at plant c) (below c) (map request_of steps))
  work_through [] below is fit granted =
      (below, record { reaches = reach_here plant (with_below below); is = is; jobs = λ d job. refl; leaves = refl })
  work_through (step ∷ steps) below is fit granted =
      let cell : Cell = cell_at plant c in
      let request : Request = request_of step in
      let parts : List Part = state_after cell (below c) request in
      let mid : ℕ → List Part = with_parts below c parts in
      let both = and_parts (is_granted (reply_to cell (below c) request)) (all_granted cell parts (map request_of steps)) granted in
      let reply : reply_to cell (below c) request ≡ Granted = granted_alone (reply_to cell (below c) request) both.0 in
      let fit_first : RequestFits cell request = All-head (λ step. RequestFits cell (request_of step)) step steps fit in
      let here : mid c ≡ parts = with_parts-here below c parts in
      let first : step_outcome plant (with_below below) (work_in c step) ≡ Some (with_below mid) =
      ap (option_and_then (λ (ps : List Part). let s : PlantState = record { above = above; below = with_parts below c ps } in Some s))
      (granted_parts-some cell (below c) request reply) in
      let is_mid : IsPlantState plant (with_below mid) =
      state_law plant fits (with_below below) is (work_in c step) (within, fit_first) (with_below mid) first in
      let rest = work_through steps mid is_mid (All-tail (λ step. RequestFits cell (request_of step)) step steps fit)
      (subst (λ (ps : List Part). all_granted cell ps (map request_of steps) ≡ true) (sym here) both.1) in (
        rest.0,
        record {
          reaches = reach_by plant (with_below below) (with_below mid) (with_below rest.0) (work_in c step)
              (within, fit_first) first rest.1.reaches;
          is = rest.1.is;
          jobs = λ d job. rest.1.jobs d job
              ∙ worked_jobs plant fits (with_below below) is c parts
              (λ within. step_works cell (fits.cells c within) (below c) (is.below c within) step reply fit_first) within d job;
          leaves = rest.1.leaves ∙ ap (λ (ps : List Part). after_requests cell ps (map request_of steps)) here;
        },
      )

  -- the parts of the cells after this cell brought all of its parts to the exit
  pub record Gathered (below next : ℕ → List Part) : Type 0 where
    pub reaches : Reaches plant (with_below below) (with_below next)
    pub is : IsPlantState plant (with_below next)
    pub jobs : (d : ℕ) (job : JobId) → is_loaded (next d) job ≡ is_loaded (below d) job
    pub exits : All (λ part. is_at_exit (cell_at plant c) part ≡ true) (next c)

  pub gather : (below : ℕ → List Part) → IsPlantState plant (with_below below)
      → length (below c) ≤ capacity_of (cell_at plant c) (exit_of plant c) → (next : ℕ → List Part) × Gathered below next
  gather below is few =
      let steps = gather_law (cell_at plant c) (fits.cells c within) (exit_of plant c) (fits.rules routes_end_at_the_exit tt c within) (below c)
      (is.below c within) few in
      let worked = work_through steps.0 below is steps.1.fit steps.1.granted in (
        worked.0,
        record {
          reaches = worked.1.reaches;
          is = worked.1.is;
          jobs = worked.1.jobs;
          exits = subst (λ (ps : List Part). All (λ part. is_at_exit (cell_at plant c) part ≡ true) ps)
              (sym worked.1.leaves) steps.1.gathered;
        },
      )
