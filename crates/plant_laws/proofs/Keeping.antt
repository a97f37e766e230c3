-- Keeping: each granted step leaves a state of the plant.
use Rattle.std.proofs.Common.{◌≡◌, ℕ, ◌<◌, Bool, true, false, cond, ◌&&◌, Option, Some, None, List, [], ◌∷◌, ◌++◌, length, Contains, ap}
use Rattle.std.proofs.Common.{refl, sym, subst, ◌∙◌}
use Rattle.std.proofs.lemmas.Bool.{eqb-true, and_parts, not_from_false}
use Rattle.std.proofs.lemmas.List.Elements.{All-contains}
use Rattle.std.proofs.lemmas.Option.{none-some, same_Some, option_and_then_some}
use Rattle.cell_base.specs.declared.cells.Cell.{Cell}
use Rattle.cell_base.specs.declared.cells.TypeId.{TypeId}
use Rattle.cell_base.specs.declared.requests.JobId.{JobId}
use Rattle.cell_base.specs.declared.requests.Part.{Part}
use Rattle.cell_base.specs.declared.requests.Request.{Request}
use Rattle.cell_base.specs.declared.requests.Request.TheVariants.{Load, Move, Unload}
use Rattle.cell_base.specs.declared.requests.Reply.TheVariants.{Granted}
use Rattle.cell_base.specs.Stages.{IsStage, stage_of, stage, successors, resource_at}
use Rattle.cell_base.specs.Histories.{is_granted}
use Rattle.cell_base.specs.Policy.{IsAdmitted}
use Rattle.cell_base.specs.Outcomes.{part_of, without, arrival, reply_to, state_after}
use Rattle.cell_base.specs.Fits.{RequestFits}
use Rattle.lists.proofs.Elements.{Contains-slice_get, find_passes, find-Contains}
use Rattle.cell_base.proofs.Stages.{first_stage, arrival_stage, successor_stage}
use Rattle.policy_laws.specs.Decisions.{PassesTests, wanted}
use Rattle.policy_laws.proofs.Granting.{granted_alone}
use Rattle.policy_laws.proofs.Parts.{part_of-found}
use Rattle.policy_laws.proofs.Decisions.{decision_law}
use Rattle.plant_laws.specs.declared.plants.Plant.{Plant}
use Rattle.plant_laws.specs.Plants.{IsCell, cell_at, cell_of, belongs_to, visit_at, PlantFits, no_cell_follows_on_itself}
use Rattle.plant_laws.specs.PlantStates.{PlantState, is_queued, first_queued, IsPlantState, has_arrived, stands_nowhere, stands_once}
use Rattle.plant_laws.specs.PlantStates.{is_over}
use Rattle.plant_laws.specs.PlantLaws.{StateLaw}
use Rattle.plant_laws.proofs.Standing.{cell_within, nowhere, once}
use Rattle.plant_laws.proofs.Working.{step_works, worked_keeps}
use Rattle.plant_laws.proofs.Granting.{load_keeps, pass_keeps, leave_keeps, clear_keeps}
use Rattle.plant_laws.proofs.Entering.{enter_keeps}
use Rattle.plant_laws.specs.PlantSteps.{CellStep, load, enter, work_in, clear, pass_on, let_out, request_of}
use Rattle.plant_laws.specs.PlantSteps.{with_parts, granted_parts, after_above, after_below, after_entry, only_if, where_arrived}

-- what is known where a request is granted
pub parts_granted : (cell : Cell) (parts : List Part) (request : Request) (next : List Part) → granted_parts cell parts request ≡ Some next
    → (reply_to cell parts request ≡ Granted) × (state_after cell parts request ≡ next)
parts_granted cell parts request next e = by (is_granted (reply_to cell parts request)) refl e
  where
    by : (b : Bool) → is_granted (reply_to cell parts request) ≡ b → cond b (Some (state_after cell parts request)) None ≡ Some next
        → (reply_to cell parts request ≡ Granted) × (state_after cell parts request ≡ next)
    by true is e = (granted_alone (reply_to cell parts request) is, same_Some _ _ e)
    by false is e = absurd (none-some next e)

-- what is known where a test lets an outcome pass
pub let_pass : {X : Type 0} (b : Bool) (o : Option X) (x : X) → cond b o None ≡ Some x → (b ≡ true) × (o ≡ Some x)
let_pass true o x e = (refl, e)
let_pass false o x e = absurd (none-some x e)

module _ (plant : Plant) (state next : PlantState) where
  above_granted : (request : Request) → after_above plant state request ≡ Some next
      → (reply_to plant.above state.above request ≡ Granted)
      × (record { above = state_after plant.above state.above request; below = state.below } ≡ next)
  above_granted request e =
      option_and_then_some (λ (above : List Part). let s : PlantState = record state { above = above } in Some s)
      (granted_parts plant.above state.above request) next e (λ above h k.
      let g = parts_granted plant.above state.above request above h in (
        g.0,
        ap (λ (ps : List Part). let s : PlantState = record { above = ps; below = state.below } in s) g.1 ∙ same_Some _ _ k,
      ))

  below_granted : (c : ℕ) (request : Request) → after_below plant state c request ≡ Some next
      → (reply_to (cell_at plant c) (state.below c) request ≡ Granted)
      × (record { above = state.above; below = with_parts state.below c (state_after (cell_at plant c) (state.below c) request) } ≡ next)
  below_granted c request e =
      option_and_then_some (λ (parts : List Part). let s : PlantState = record state { below = with_parts state.below c parts } in Some s)
      (granted_parts (cell_at plant c) (state.below c) request) next e (λ parts h k.
      let g = parts_granted (cell_at plant c) (state.below c) request parts h in (
        g.0,
        ap (λ (ps : List Part). let s : PlantState = record { above = state.above; below = with_parts state.below c ps } in s) g.1
            ∙ same_Some _ _ k,
      ))

  arrived_granted : (job : JobId) (f : Part → Option PlantState) → where_arrived plant state job f ≡ Some next
      → (part : Part) × (part_of state.above job ≡ Some part) × (has_arrived plant state part ≡ true) × (f part ≡ Some next)
  arrived_granted job f e =
      option_and_then_some (λ (part : Part). only_if (has_arrived plant state part) (f part)) (part_of state.above job) next e
      (λ part h k. let g = let_pass (has_arrived plant state part) (f part) next k in (part, h, g.0, g.1))

module _ (plant : Plant) (fits : PlantFits plant) (state : PlantState) (is : IsPlantState plant state) where
  -- a part that comes to a place of the plant is done
  arrival_done : (job : JobId) (kind : TypeId) (place : ℕ) → IsStage plant.above (stage kind.0 place)
      → (arrival plant.above job kind place).done ≡ true
  arrival_done job kind place here = not_from_false _ (fits.holds (stage kind.0 place) here)

  load_leaves : (job : JobId) (kind : TypeId) → kind.0 < length plant.above.types → stands_nowhere plant state job ≡ true
      → reply_to plant.above state.above (Load job kind) ≡ Granted
      → IsPlantState plant (record { above = state_after plant.above state.above (Load job kind); below = state.below })
  load_leaves job kind fit away granted =
      let decided = decision_law plant.above fits.above state.above is.above (Load job kind) fit in
      let passes = decided.reply.granted.0 granted in
      subst (λ (ps : List Part). IsPlantState plant (record { above = ps; below = state.below })) (sym (decided.state granted))
      (load_keeps plant fits state is (arrival plant.above job kind 0) (nowhere plant fits state is job away)
      (arrival_done job kind 0 (first_stage plant.above fits.above kind.0 fit)) passes.1)

  work_leaves : (c : ℕ) (step : CellStep) → IsCell plant c → RequestFits (cell_at plant c) (request_of step)
      → reply_to (cell_at plant c) (state.below c) (request_of step) ≡ Granted
      → IsPlantState plant
      (record { above = state.above; below = with_parts state.below c (state_after (cell_at plant c) (state.below c) (request_of step)) })
  work_leaves c step within fit granted =
      worked_keeps plant fits state is c (state_after (cell_at plant c) (state.below c) (request_of step))
      (λ within. step_works (cell_at plant c) (fits.cells c within) (state.below c) (is.below c within) step granted fit) within

  pass_leaves : (job : JobId) (branch : ℕ) (part : Part) → part_of state.above job ≡ Some part → has_arrived plant state part ≡ true
      → stands_once plant state part ≡ true → RequestFits plant.above (Move job branch) → reply_to plant.above state.above
      (Move job branch) ≡ Granted
      → IsPlantState plant (record { above = state_after plant.above state.above (Move job branch); below = state.below })
  pass_leaves job branch part found arrived alone fit granted =
      let decided = decision_law plant.above fits.above state.above is.above (Move job branch) fit in
      let passes = decided.reply.granted.0 granted in by passes.0 (decided.state granted) passes.1
    where
      by : PassesTests plant.above state.above (Move job branch)
          → state_after plant.above state.above (Move job branch) ≡ wanted plant.above state.above (Move job branch)
          → IsAdmitted plant.above (wanted plant.above state.above (Move job branch))
          → IsPlantState plant (record { above = state_after plant.above state.above (Move job branch); below = state.below })
      by (other, (to, may)) next admitted =
          let same : part ≡ other = same_Some part other (sym found ∙ may.found) in
          let new : Part = arrival plant.above other.job other.kind to.place in
          let contains : Contains (successors plant.above (stage_of other)) to =
          Contains-slice_get (successors plant.above (stage_of other)) branch to may.next in
          let at = part_of-found state.above job other may.found in
          let here : IsStage plant.above (stage_of other) =
          All-contains (λ p. IsStage plant.above (stage_of p)) state.above other is.above.state.standing at.0 in
          let there : stage_of new ≡ to = arrival_stage plant.above fits.above other to contains in
          let stands : IsStage plant.above (stage_of new) =
          subst (IsStage plant.above) (sym there) (successor_stage plant.above fits.above (stage_of other) to contains) in
          let after : wanted plant.above state.above (Move job branch) ≡ without state.above other.job ++ new ∷ [] = rw
          (may.found, may.next) refl in
          subst (λ (ps : List Part). IsPlantState plant (record { above = ps; below = state.below })) (sym (next ∙ after))
          (pass_keeps plant fits state is other at.0 (subst (λ (p : Part). has_arrived plant state p ≡ true) same arrived)
          (once plant fits state is other (subst (λ (p : Part). stands_once plant state p ≡ true) same alone)) new refl
          (arrival_done other.job other.kind to.place stands)
          (λ e. fits.rules no_cell_follows_on_itself tt (stage_of other) to here contains (sym e ∙ ap (resource_at plant.above) there))
          (subst (IsAdmitted plant.above) after admitted))

  leave_leaves : (job : JobId) (part : Part) → part_of state.above job ≡ Some part → has_arrived plant state part ≡ true
      → reply_to plant.above state.above (Unload job) ≡ Granted
      → IsPlantState plant (record { above = state_after plant.above state.above (Unload job); below = state.below })
  leave_leaves job part found arrived granted =
      let decided = decision_law plant.above fits.above state.above is.above (Unload job) tt in
      let passes = decided.reply.granted.0 granted in
      let at = part_of-found state.above job part found in
      subst (λ (ps : List Part). IsPlantState plant (record { above = ps; below = state.below })) (sym (decided.state granted))
      (subst (λ (j : JobId). IsPlantState plant (record { above = without state.above j; below = state.below })) at.1
      (leave_keeps plant fits state is part at.0 arrived
      (subst (λ (j : JobId). IsAdmitted plant.above (without state.above j)) (sym at.1) passes.1)))

  clear_leaves : (c : ℕ) (job : JobId) → IsCell plant c → is_over plant state c job ≡ true
      → reply_to (cell_at plant c) (state.below c) (Unload job) ≡ Granted
      → IsPlantState plant
      (record { above = state.above; below = with_parts state.below c (state_after (cell_at plant c) (state.below c) (Unload job)) })
  clear_leaves c job within over granted =
      let decided = decision_law (cell_at plant c) (fits.cells c within) (state.below c) (is.below c within) (Unload job) tt in
      let passes = decided.reply.granted.0 granted in
      subst (λ (ps : List Part). IsPlantState plant (record { above = state.above; below = with_parts state.below c ps }))
      (sym (decided.state granted)) (clear_keeps plant fits state is c within job over passes.1)

  -- the first of a cell's queue belongs there
  pub first_own : (c : ℕ) (part : Part) → first_queued plant state c ≡ Some part
      → (cell_of plant part ≡ c) × (first_queued plant state (cell_of plant part) ≡ Some part)
  first_own c part first =
      let own : cell_of plant part ≡ c =
      eqb-true _ _ (and_parts _ _ (find_passes (λ p. belongs_to plant c p && is_queued plant state p) state.above part first)).0 in
      (own, subst (λ (k : ℕ). first_queued plant state k ≡ Some part) (sym own) first)

  pub visit_fits : (part : Part) → Contains state.above part
      → RequestFits (cell_at plant (cell_of plant part)) (Load part.job (visit_at plant (stage_of part)))
  visit_fits part at = fits.visits (stage_of part)
      (All-contains (λ p. IsStage plant.above (stage_of p)) state.above part is.above.state.standing at)

  enter_leaves : (part : Part) → first_queued plant state (cell_of plant part) ≡ Some part
      → reply_to (cell_at plant (cell_of plant part)) (state.below (cell_of plant part)) (Load part.job (visit_at plant (stage_of part)))
      ≡ Granted
      → IsPlantState plant
      (record {
        above = state.above;
        below = with_parts state.below (cell_of plant part)
            (state_after (cell_at plant (cell_of plant part)) (state.below (cell_of plant part))
            (Load part.job (visit_at plant (stage_of part))));
      })
  enter_leaves part first granted =
      let c : ℕ = cell_of plant part in
      let at : Contains state.above part = find-Contains (λ p. belongs_to plant c p && is_queued plant state p) state.above part first in
      let within : IsCell plant c = cell_within plant fits state.above part is.above at in
      let decided = decision_law (cell_at plant c) (fits.cells c within) (state.below c) (is.below c within)
      (Load part.job (visit_at plant (stage_of part))) (visit_fits part at) in
      let passes = decided.reply.granted.0 granted in
      subst (λ (ps : List Part). IsPlantState plant
      (record { above = state.above; below = with_parts state.below c ps })) (sym (decided.state granted))
      (enter_keeps plant fits state is part first
      (arrival (cell_at plant c) part.job (visit_at plant (stage_of part)) 0) refl refl passes.1)

pub state_law : (plant : Plant) → PlantFits plant → StateLaw plant
state_law plant fits state is (load job kind) fit next e =
    let a = let_pass (stands_nowhere plant state job) (after_above plant state (Load job kind)) next e in
    let g = above_granted plant state next (Load job kind) a.1 in
    subst (IsPlantState plant) g.1 (load_leaves plant fits state is job kind fit a.0 g.0)
state_law plant fits state is (enter c) fit next e =
    option_and_then_some (after_entry plant state) (first_queued plant state c) next e (λ part first k.
    let g = below_granted plant state next (cell_of plant part) (Load part.job (visit_at plant (stage_of part))) k in
    subst (IsPlantState plant) g.1 (enter_leaves plant fits state is part (first_own plant fits state is c part first).1 g.0))
state_law plant fits state is (work_in c step) fit next e =
    let g = below_granted plant state next c (request_of step) e in
    subst (IsPlantState plant) g.1 (work_leaves plant fits state is c step fit.0 fit.1 g.0)
state_law plant fits state is (clear c job) fit next e =
    let a = let_pass (is_over plant state c job) (after_below plant state c (Unload job)) next e in
    let g = below_granted plant state next c (Unload job) a.1 in
    subst (IsPlantState plant) g.1 (clear_leaves plant fits state is c job fit a.0 g.0)
state_law plant fits state is (pass_on job branch) fit next e =
    let a = arrived_granted plant state next job
    (λ part. only_if (stands_once plant state part) (after_above plant state (Move job branch))) e in
    let b = let_pass (stands_once plant state a.0) (after_above plant state (Move job branch)) next a.3 in
    let g = above_granted plant state next (Move job branch) b.1 in
    subst (IsPlantState plant) g.1 (pass_leaves plant fits state is job branch a.0 a.1 a.2 b.0 fit g.0)
state_law plant fits state is (let_out job) fit next e =
    let a = arrived_granted plant state next job (λ part. after_above plant state (Unload job)) e in
    let g = above_granted plant state next (Unload job) a.3 in
    subst (IsPlantState plant) g.1 (leave_leaves plant fits state is job a.0 a.1 a.2 g.0)
