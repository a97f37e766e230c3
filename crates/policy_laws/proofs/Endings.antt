-- Endings: the ways in which a request ends, and the one that each request has.
use Rattle.std.proofs.Common.{◌≡◌, ℕ, ◌+◌, ◌≤◌, true, false, not, if◌then◌else◌, List, [], ◌∷◌}
use Rattle.std.proofs.Common.{◌++◌, Contains, Option, Some, None, refl, sym, subst, arith, ◌∙◌}
use Rattle.std.specs.List.{list_any}
use Rattle.std.specs.Option.{option_map, option_map_or, option_and_then}
use Rattle.std.proofs.lemmas.Bool.{cond_both, eqb-true, false≢true, not-true, not-false}
use Rattle.std.proofs.lemmas.Option.{none-some, same_Some, slice_get_within}
use Rattle.cell_base.specs.declared.cells.Cell.{Cell}
use Rattle.cell_base.specs.declared.requests.JobId.{JobId}
use Rattle.cell_base.specs.declared.requests.Part.{Part}
use Rattle.cell_base.specs.declared.requests.Request.{Request}
use Rattle.cell_base.specs.declared.requests.Request.TheVariants.{Load, Process, Move, Unload, Place}
use Rattle.cell_base.specs.declared.requests.Refusal.{Refusal}
use Rattle.cell_base.specs.declared.requests.Refusal.TheVariants.{NoSuchJob, JobLoaded, NotProcessed, AtLast, NotLast, Idle, NoBranch}
use Rattle.cell_base.specs.declared.requests.Reply.{Reply}
use Rattle.cell_base.specs.declared.requests.Reply.TheVariants.{Granted}
use Rattle.cell_base.specs.Stages.{Stage, IsStage, stage_of, is_last, successors, successor}
use Rattle.cell_base.specs.Neighborhoods.{count}
use Rattle.cell_base.specs.Policy.{IsState, is_loaded}
use Rattle.cell_base.specs.Outcomes.{part_of, without, arrival, is_waiting_on, finish_first, refuse, admit, outcome, outcome_of_entry}
use Rattle.cell_base.specs.Outcomes.{outcome_of_process, outcome_of_step, outcome_of_move, outcome_of_unload}
use Rattle.cell_base.specs.Fits.{CellFits, RequestFits}
use Rattle.cell_base.proofs.Admission.{others_from_not_loaded}
use Rattle.policy_laws.specs.Laws.{MayMove}
use Rattle.policy_laws.specs.Decisions.{onward, wanted, MayLeave, PassesTests, is_saturation}
use Rattle.lists.proofs.Elements.{Contains-slice_get}
use Rattle.cell_base.proofs.Stages.{arrival_stage, successor_stage, first_stage}
use Rattle.policy_laws.proofs.Parts.{part_of-found, without-others}
use Rattle.policy_laws.proofs.States.{share-le, count_push, count-without, count-finish_first}
use Rattle.policy_laws.proofs.States.{IsState-push, IsState-without, IsState-finish_first}

-- the parts after a step are a state in which each neighborhood holds at most `more` parts more
pub record Follows (cell : Cell) (parts : List Part) (more : ℕ) (next : List Part) : Type 0 where
  pub state : IsState cell next
  pub counts : (r : ℕ) → count cell next r ≤ count cell parts r + more

-- the ways in which a request ends: refused by an earlier test than that of the neighborhoods, granted without a count that rises, or
-- granted unless a neighborhood is full. Where it is granted, the next state is the one that it asks for
pub data Ending (cell : Cell) (parts : List Part) (Passes : Type 0) (next : List Part) : Reply × List Part → Type 0 where
  refused : (why : Refusal) → is_saturation why ≡ false → (Passes → ⊥) → Ending cell parts Passes next (refuse why parts)
  granted : Passes → Follows cell parts 0 next → Ending cell parts Passes next (Granted, next)
  admitted : Passes → Follows cell parts 1 next → Ending cell parts Passes next (admit cell parts next)

module _ (cell : Cell) (fits : CellFits cell) (parts : List Part) (state : IsState cell parts) where
  entry_ending : (part : Part) → IsStage cell (stage_of part)
      → Ending cell parts (is_loaded parts part.job ≡ false) (parts ++ part ∷ []) (outcome_of_entry cell parts part)
  entry_ending part stage =
      cond_both (is_loaded parts part.job) (refuse JobLoaded parts) (admit cell parts (parts ++ part ∷ []))
      (Ending cell parts (is_loaded parts part.job ≡ false) (parts ++ part ∷ []))
      (λ e. refused JobLoaded refl (λ absent. false≢true (sym absent ∙ e)))
      (λ e. admitted e (record {
        state = IsState-push cell parts part state (others_from_not_loaded parts part.job e) stage;
        counts = λ r. omega (arith, count_push cell parts part r, share-le cell r (stage_of part));
      }))

  process_ending : (r : ℕ)
      → Ending cell parts (list_any (is_waiting_on cell r) parts ≡ true) (finish_first (is_waiting_on cell r) parts)
      (outcome_of_process cell parts r)
  process_ending r =
      cond_both (list_any (is_waiting_on cell r) parts) (Granted, finish_first (is_waiting_on cell r) parts) (refuse Idle parts)
      (Ending cell parts (list_any (is_waiting_on cell r) parts ≡ true) (finish_first (is_waiting_on cell r) parts))
      (λ e. granted e (record {
        state = IsState-finish_first cell (is_waiting_on cell r) parts state;
        counts = λ q. omega (arith, count-finish_first cell (is_waiting_on cell r) parts q);
      }))
      (λ e. refused Idle refl (λ waits. false≢true (sym e ∙ waits)))

  -- the parts where one of them goes on, if there is one and it has a stage to go to
  abbrev gone_on : Option Part → List Part
  gone_on next = option_map_or (λ part. without parts part.job ++ part ∷ []) next parts

  module _ (job : JobId) (branch : ℕ) (part : Part) (found : part_of parts job ≡ Some part) where
    -- what passes the tests of a move is this part
    moves : PassesTests cell parts (Move job branch) → (to : Stage) × MayMove cell parts job branch part to
    moves (other, passes) =
        subst (λ (p : Part). (to : Stage) × MayMove cell parts job branch p to) (same_Some other part (sym passes.1.found ∙ found)) passes

    -- a part that goes on by a branch
    step_ending : part.done ≡ true → (o : Option Stage) → successor cell (stage_of part) branch ≡ o
        → Ending cell parts (PassesTests cell parts (Move job branch))
        (gone_on (option_map (λ (to : Stage). arrival cell part.job part.kind to.place) o)) (outcome_of_step cell parts part o)
    step_ending done None e = refused NoBranch refl (λ passes. let to = moves passes in none-some to.0 (sym e ∙ to.1.next))
    step_ending done (Some to) e =
        let next : Contains (successors cell (stage_of part)) to = Contains-slice_get (successors cell (stage_of part)) branch to e in
        admitted (part, (to, record { found = found; done = done; next = e })) (record {
          state =
              IsState-push cell (without parts part.job) (arrival cell part.job part.kind to.place)
              (IsState-without cell parts part.job state) (without-others parts part.job)
              (subst (IsStage cell) (sym (arrival_stage cell fits part to next)) (successor_stage cell fits (stage_of part) to next));
          counts = λ r. omega (
            arith,
            count_push cell (without parts part.job) (arrival cell part.job part.kind to.place) r,
            count-without cell parts part r state.distinct (part_of-found parts job part found).0,
            share-le cell r (stage_of (arrival cell part.job part.kind to.place)),
          );
        })

    -- a part at a last stage has no branch
    no_way : is_last cell (stage_of part) ≡ true → (to : Stage) → successor cell (stage_of part) branch ≡ Some to → ⊥
    no_way last to e = omega (arith, eqb-true _ _ last, slice_get_within (successors cell (stage_of part)) branch to e)

    part_ending : Ending cell parts (PassesTests cell parts (Move job branch)) (gone_on (onward cell branch part))
        (outcome_of_move cell parts (Some part) branch)
    part_ending =
        let step : Reply × List Part = outcome_of_step cell parts part (successor cell (stage_of part) branch) in
        let on_done : Reply × List Part = if is_last cell (stage_of part) then refuse AtLast parts else step in
        let Ends : Reply × List Part → Type 0 =
        Ending cell parts (PassesTests cell parts (Move job branch)) (gone_on (onward cell branch part)) in
        cond_both (not part.done) (refuse NotProcessed parts) on_done Ends
        (λ e. refused NotProcessed refl (λ passes. false≢true (sym (not-true part.done e) ∙ (moves passes).1.done)))
        (λ e. cond_both (is_last cell (stage_of part)) (refuse AtLast parts) step Ends
        (λ last. refused AtLast refl (λ passes. let to = moves passes in no_way last to.0 to.1.next))
        (λ f. step_ending (not-false part.done e) (successor cell (stage_of part) branch) refl))

  move_ending : (job : JobId) (branch : ℕ) (o : Option Part) → part_of parts job ≡ o
      → Ending cell parts (PassesTests cell parts (Move job branch)) (gone_on (option_and_then (onward cell branch) o))
      (outcome_of_move cell parts o branch)
  move_ending job branch None e = refused NoSuchJob refl (λ passes. none-some passes.0 (sym e ∙ passes.1.1.found))
  move_ending job branch (Some part) e = part_ending job branch part e

  module _ (job : JobId) (part : Part) (found : part_of parts job ≡ Some part) where
    -- what passes the tests of an unload is this part
    leaves : PassesTests cell parts (Unload job) → MayLeave cell parts job part
    leaves (other, may) = subst (MayLeave cell parts job) (same_Some other part (sym may.found ∙ found)) may

    out_ending : Ending cell parts (PassesTests cell parts (Unload job)) (without parts part.job) (outcome_of_unload cell parts (Some part))
    out_ending =
        let out : Reply × List Part = (Granted, without parts part.job) in
        let on_done : Reply × List Part = if is_last cell (stage_of part) then out else refuse NotLast parts in
        let Ends : Reply × List Part → Type 0 = Ending cell parts (PassesTests cell parts (Unload job)) (without parts part.job) in
        cond_both (not part.done) (refuse NotProcessed parts) on_done Ends
        (λ e. refused NotProcessed refl (λ passes. false≢true (sym (not-true part.done e) ∙ (leaves passes).done)))
        (λ e. cond_both (is_last cell (stage_of part)) out (refuse NotLast parts) Ends
        (λ last. granted (part, record { found = found; done = not-false part.done e; last = last }) (record {
          state = IsState-without cell parts part.job state;
          counts = λ r. omega (arith, count-without cell parts part r state.distinct (part_of-found parts job part found).0);
        }))
        (λ f. refused NotLast refl (λ passes. false≢true (sym f ∙ (leaves passes).last))))

  unload_ending : (job : JobId) (o : Option Part) → part_of parts job ≡ o
      → Ending cell parts (PassesTests cell parts (Unload job)) (without parts job) (outcome_of_unload cell parts o)
  unload_ending job None e = refused NoSuchJob refl (λ passes. none-some passes.0 (sym e ∙ passes.1.found))
  unload_ending job (Some part) e =
      let Passes : Type 0 = PassesTests cell parts (Unload job) in
      subst (λ (of : JobId). Ending cell parts Passes (without parts of) (outcome_of_unload cell parts (Some part)))
      (part_of-found parts job part e).1 (out_ending job part e)

  pub ending : (request : Request) → RequestFits cell request
      → Ending cell parts (PassesTests cell parts request) (wanted cell parts request) (outcome cell parts request)
  ending (Load job kind) h = entry_ending (arrival cell job kind 0) (first_stage cell fits kind.0 h)
  ending (Process machine) h = process_ending machine.0
  ending (Move job branch) h = move_ending job branch (part_of parts job) refl
  ending (Unload job) h = unload_ending job (part_of parts job) refl
  ending (Place done kind job place) h = entry_ending (record { job = job; kind = kind; place = place; done = done }) h.0
