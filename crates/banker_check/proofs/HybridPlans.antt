-- Plans: from each hybrid state the plan's steps are granted in turn until no part is left.
use Rattle.std.proofs.Common.{◌≡◌, ℕ, zero, suc, ◌+◌, Bool, true, false, not, if◌then◌else◌, cond, List, [], ◌∷◌, length, Contains}
use Rattle.std.proofs.Common.{Option, Some, None, find, ap, refl, sym, subst, inl, inr, ⊎_elim, arith, ◌∙◌, lit<}
use Rattle.std.specs.Option.{option_map, option_map_or}
use Rattle.std.proofs.lemmas.Bool.{and_parts, and_from, not-true, not-false, not_from_false, eq-eqb, eqb-false, cond_both, both_ways}
use Rattle.std.proofs.lemmas.List.Elements.{All-contains}
use Rattle.std.proofs.lemmas.List.Sums.{sum_by_push}
use Rattle.std.proofs.lemmas.Option.{none-some, same_Some}
use Rattle.cell_base.specs.declared.cells.Cell.{Cell}
use Rattle.cell_base.specs.declared.cells.ResId.{ResId}
use Rattle.cell_base.specs.declared.requests.Part.{Part}
use Rattle.cell_base.specs.declared.requests.Request.{Request}
use Rattle.cell_base.specs.declared.requests.Request.TheVariants.{Process, Move, Unload}
use Rattle.banker_check.specs.declared.replies.HybridReply.{HybridReply}
use Rattle.banker_check.specs.declared.replies.HybridReply.TheVariants.{Granted}
use Rattle.cell_base.specs.Stages.{Stage, IsStage, stage_of, is_last, successors, successor}
use Rattle.cell_base.specs.Policy.{IsAdmitted, is_admitted}
use Rattle.cell_base.specs.Outcomes.{arrival, without, is_waiting_on, finish_first, state_after}
use Rattle.cell_base.specs.Plans.{resource_of_part, step_of, plan_step, work_of, work}
use Rattle.cell_base.specs.Fits.{CellFits, RequestFits}
use Rattle.cell_base.proofs.Admission.{admitted_by_test}
use Rattle.policy_laws.specs.Laws.{Advances}
use Rattle.policy_laws.proofs.Lists.{first_some, find-Contains, find_passes, find_some, list_any-Contains}
use Rattle.policy_laws.proofs.Stages.{resource_within}
use Rattle.policy_laws.proofs.Parts.{part_of-job, sum_by-without, sum_by-finish_first}
use Rattle.policy_laws.proofs.Requests.{moved, unload_outcome, process_outcome}
use Rattle.policy_laws.proofs.Work.{work_of-last, work_of-moved, work_of-finished}
use Rattle.policy_laws.proofs.Picks.{plan_step-none}
use Rattle.policy_laws.proofs.Plans.{no_work, plan_step_advances}
use Rattle.banker_check.specs.Ways.{is_held_up}
use Rattle.banker_check.specs.Orders.{IsOrdered}
use Rattle.banker_check.specs.Hybrid.{IsHybrid, as_hybrid, admit_h, outcome_h, state_after_h}
use Rattle.banker_check.specs.HybridPlans.{goes_first, plan_h, plan_h_within, DrainsHybrid}
use Rattle.banker_check.specs.Laws.{AdvancesHybrid, HybridPlanLaw}
use Rattle.banker_check.proofs.Greed.{ordered-loose, loose-first}
use Rattle.banker_check.proofs.Ordered.{ordered-moved}
use Rattle.banker_check.proofs.HybridEndings.{admit_h-ordered, grant_law, hybrid_law}

module _ (cell : Cell) (fits : CellFits cell) (parts : List Part) where
  advances : (request : Request) (next : List Part) → IsHybrid cell parts → RequestFits cell request
      → outcome_h cell parts request ≡ (Granted, next) → work cell next + 1 ≡ work cell parts → AdvancesHybrid cell parts request
  advances request next hybrid fit e nearer = record {
    fits = fit;
    granted = ap (λ o. o.0) e;
    hybrid = hybrid_law cell fits parts request hybrid fit;
    nearer = ap (λ (o : HybridReply × List Part). work cell o.1 + 1) e ∙ nearer;
  }

  -- the policy's step from a state that it admits
  admitted_advances : (request : Request) → IsAdmitted cell parts → Advances cell parts request → AdvancesHybrid cell parts request
  admitted_advances request admitted step =
      advances request (state_after cell parts request) (inl admitted) step.fits
      (grant_law cell fits parts request admitted.state step.fits step.granted) step.nearer

  module _ (ordered : IsOrdered cell parts) (part : Part) (c : Contains parts part) where
    standing : IsStage cell (stage_of part)
    standing = All-contains (λ part. IsStage cell (stage_of part)) parts part ordered.state.standing c

    process_advances : part.done ≡ false → AdvancesHybrid cell parts (Process (record { 0 = resource_of_part cell part }))
    process_advances waiting =
        let machine : ResId = record { 0 = resource_of_part cell part } in
        let test = is_waiting_on cell (resource_of_part cell part) in
        let passes : test part ≡ true = and_from _ _ (not_from_false part.done waiting) (eq-eqb _ _ refl) in
        let first = find_some test parts part c passes in
        let unfinished : first.0.done ≡ false = not-true _ (and_parts _ _ (find_passes test parts first.0 first.1)).0 in
        advances (Process machine) (finish_first test parts) (inr ordered) (resource_within cell fits (stage_of part) standing)
        (ap (λ o. (as_hybrid o.0, o.1)) (process_outcome cell parts machine (list_any-Contains test parts part c passes)))
        (omega (arith, sum_by-finish_first (work_of cell) test parts first.0 first.1, work_of-finished cell first.0 unfinished))

    unload_advances : part.done ≡ true → is_last cell (stage_of part) ≡ true → AdvancesHybrid cell parts (Unload part.job)
    unload_advances done last =
        advances (Unload part.job) (without parts part.job) (inr ordered) tt
        (ap (λ o. (as_hybrid o.0, o.1))
        (unload_outcome cell parts part.job part (part_of-job parts part ordered.state.distinct c) done last))
        (omega (
          arith,
          sum_by-without (work_of cell) parts part ordered.state.distinct c,
          work_of-last cell fits part standing done last,
        ))

    move_outcome : (to : Stage) → part.done ≡ true → is_last cell (stage_of part) ≡ false → successor cell (stage_of part) 0 ≡ Some to
        → outcome_h cell parts (Move part.job 0) ≡ admit_h cell parts (moved cell parts part to)
    move_outcome to done more next = rw (part_of-job parts part ordered.state.distinct c, done, more, next) refl

    move_advances : is_held_up cell (without parts part.job) part ≡ false → part.done ≡ true → is_last cell (stage_of part) ≡ false
        → AdvancesHybrid cell parts (Move part.job 0)
    move_advances free done more =
        let branch = first_some (successors cell (stage_of part)) (eqb-false _ _ more) in
        let to = branch.0 in
        let next : successor cell (stage_of part) 0 ≡ Some to = branch.1 in
        advances (Move part.job 0) (moved cell parts part to) (inr ordered) (lit< tt)
        (move_outcome to done more next
        ∙ admit_h-ordered cell parts (moved cell parts part to) (ordered-moved cell fits parts part to ordered c free next))
        (omega (
          arith,
          sum_by_push (work_of cell) (without parts part.job) (arrival cell part.job part.kind to.place),
          sum_by-without (work_of cell) parts part ordered.state.distinct c,
          work_of-moved cell fits part to standing done next,
        ))

    -- what a part asks for that could be first
    ordered_advances : goes_first cell parts part ≡ true → AdvancesHybrid cell parts (step_of cell part)
    ordered_advances goes =
        let onward : Request = if is_last cell (stage_of part) then Unload part.job else Move part.job 0 in
        let work_there : Request = Process (record { 0 = resource_of_part cell part }) in
        cond_both (not part.done) work_there onward (AdvancesHybrid cell parts) (λ e. process_advances (not-true _ e))
        (λ e. cond_both (is_last cell (stage_of part)) (Unload part.job) (Move part.job 0) (AdvancesHybrid cell parts)
        (unload_advances (not-false _ e)) (move_advances (not-true _ goes) (not-false _ e)))

  -- a hybrid state that the policy does not admit is ordered
  other-ordered : IsHybrid cell parts → is_admitted cell parts ≡ false → IsOrdered cell parts
  other-ordered hybrid e =
      ⊎_elim (λ admitted. absurd (both_ways _ e ((admitted_by_test cell parts).1 admitted))) (λ ordered. ordered) hybrid

  plan_step_h : (request : Request) → IsHybrid cell parts → plan_h cell parts ≡ Some request → AdvancesHybrid cell parts request
  plan_step_h request hybrid = at (is_admitted cell parts) refl
    where
      of : IsOrdered cell parts → (o : Option Part) → find (goes_first cell parts) parts ≡ o → option_map (step_of cell) o ≡ Some request
          → AdvancesHybrid cell parts request
      of ordered None e f = absurd (none-some request f)
      of ordered (Some part) e f =
          subst (AdvancesHybrid cell parts) (same_Some _ _ f)
          (ordered_advances ordered part (find-Contains (goes_first cell parts) parts part e)
          (find_passes (goes_first cell parts) parts part e))

      at : (b : Bool) → is_admitted cell parts ≡ b
          → cond b (plan_step cell parts) (option_map (step_of cell) (find (goes_first cell parts) parts)) ≡ Some request
          → AdvancesHybrid cell parts request
      at true e f =
          let admitted = (admitted_by_test cell parts).0 e in
          admitted_advances request admitted (plan_step_advances cell fits parts admitted request f)
      at false e f = of (other-ordered hybrid e) (find (goes_first cell parts) parts) refl f

-- where a part is left, the plan has a step
ordered_step : (cell : Cell) (parts : List Part) → IsOrdered cell parts
    → option_map (step_of cell) (find (goes_first cell parts) parts) ≡ None → parts ≡ []
ordered_step cell [] ordered e = refl
ordered_step cell (first ∷ parts) ordered e =
    let all : List Part = first ∷ parts in
    let pick = loose-first cell first parts (ordered-loose cell all ordered) in
    let found = find_some (goes_first cell all) all pick.0 pick.1 (not_from_false _ pick.2) in
    absurd (none-some (step_of cell found.0) (sym e ∙ ap (option_map (step_of cell)) found.1))

plan_h-none : (cell : Cell) (fits : CellFits cell) (parts : List Part) → IsHybrid cell parts → plan_h cell parts ≡ None → parts ≡ []
plan_h-none cell fits parts hybrid = at (is_admitted cell parts) refl
  where
    at : (b : Bool) → is_admitted cell parts ≡ b
        → cond b (plan_step cell parts) (option_map (step_of cell) (find (goes_first cell parts) parts)) ≡ None → parts ≡ []
    at true e f = plan_step-none cell parts f
    at false e f = ordered_step cell parts (other-ordered cell fits parts hybrid e) f

plan_h-empty : (cell : Cell) → plan_h cell [] ≡ None
plan_h-empty cell = cond_both {A = Option Request} (is_admitted cell []) None None (λ o. o ≡ None) (λ e. refl) (λ e. refl)

-- n requests that empty the cell
abbrev DrainsBy : Cell → List Part → ℕ → List Request → Type 0
DrainsBy cell parts n requests = DrainsHybrid cell parts requests × (length requests ≡ n)

-- a step that advances, before requests that empty the cell
drains_onward : (cell : Cell) (parts : List Part) (n : ℕ) (request : Request) (requests : List Request) → AdvancesHybrid cell parts request
    → DrainsBy cell (state_after_h cell parts request) n requests → DrainsBy cell parts (suc n) (request ∷ requests)
drains_onward cell parts n request requests step rest =
    (record { granted = rw step.granted rest.0.granted; emptied = rest.0.emptied }, ap suc rest.1)

module _ (cell : Cell) (fits : CellFits cell) where
  drains_within : (n : ℕ) (parts : List Part) → IsHybrid cell parts → work cell parts ≡ n → DrainsBy cell parts n
      (plan_h_within cell n parts)
  drains_within zero parts hybrid e = (record { granted = refl; emptied = no_work cell parts e }, refl)
  drains_within (suc n) parts hybrid e = at (plan_h cell parts) refl (drains_within n)
    where
      at : (o : Option Request) → plan_h cell parts ≡ o
          → ((next : List Part) → IsHybrid cell next → work cell next ≡ n → DrainsBy cell next n (plan_h_within cell n next))
          → DrainsBy cell parts (suc n) (option_map_or (λ request. request ∷ plan_h_within cell n (state_after_h cell parts request)) o [])
      at None f later = absurd (omega (arith, e, ap (work cell) (plan_h-none cell fits parts hybrid f)))
      at (Some request) f later =
          let step = plan_step_h cell fits parts request hybrid f in
          drains_onward cell parts n request (plan_h_within cell n (state_after_h cell parts request)) step
          (later (state_after_h cell parts request) step.hybrid (omega (arith, e, step.nearer)))

  pub hybrid_plan_law : HybridPlanLaw cell
  hybrid_plan_law parts hybrid = record {
    none = (plan_h-none cell fits parts hybrid, λ e. ap (plan_h cell) e ∙ plan_h-empty cell);
    step = λ request e. plan_step_h cell fits parts request hybrid e;
    drains = (drains_within (work cell parts) parts hybrid refl).0;
    steps = (drains_within (work cell parts) parts hybrid refl).1;
  }
