-- Endings: the ways in which a request ends by the policy and by the hybrid.
use Rattle.std.proofs.Common.{◌≡◌, ◌≢◌, ◌<◌, ℕ, nat_lt, length, Bool, true, false, not, cond, if◌then◌else◌, List, [], ◌∷◌, ◌++◌}
use Rattle.std.proofs.Common.{Contains, Option, Some, None, ap, refl, sym, subst, inl, inr, ⊎_elim, arith, ◌∙◌}
use Rattle.std.specs.List.{list_any}
use Rattle.std.specs.Option.{option_and_then, option_map, option_map_or}
use Rattle.std.proofs.lemmas.Bool.{cond_both, false≢true, ltb-true}
use Rattle.cell_base.specs.declared.cells.Cell.{Cell}
use Rattle.cell_base.specs.declared.cells.ResId.{ResId}
use Rattle.cell_base.specs.declared.requests.JobId.{JobId}
use Rattle.cell_base.specs.declared.requests.Part.{Part}
use Rattle.cell_base.specs.declared.requests.Request.{Request}
use Rattle.cell_base.specs.declared.requests.Request.TheVariants.{Load, Process, Move, Unload, Place}
use Rattle.cell_base.specs.declared.requests.Refusal.{Refusal}
use Rattle.cell_base.specs.declared.requests.Refusal.TheVariants.{NoSuchJob, JobLoaded, NotProcessed, AtLast, NotLast, Idle, NoBranch}
use Rattle.cell_base.specs.declared.requests.Refusal.TheVariants.{Saturated}
use Rattle.cell_base.specs.declared.requests.Reply.{Reply}
use Rattle.cell_base.specs.declared.requests.Reply.TheVariants.{Granted as Permitted}
use Rattle.banker_check.specs.declared.replies.HybridReply.{HybridReply}
use Rattle.banker_check.specs.declared.replies.HybridReply.TheVariants.{Granted, Refused, Blocked}
use Rattle.cell_base.specs.Stages.{Stage, IsStage, stage_of, is_last, successors, successor, capacity_of, resource_numbers}
use Rattle.cell_base.specs.Neighborhoods.{count}
use Rattle.cell_base.specs.Policy.{IsState, is_loaded, first_over}
use Rattle.cell_base.specs.Outcomes.{part_of, without, arrival, is_waiting_on, finish_first, refuse, admit, outcome, outcome_of_entry}
use Rattle.cell_base.specs.Outcomes.{outcome_of_process, outcome_of_step, outcome_of_move, outcome_of_unload}
use Rattle.cell_base.specs.Fits.{CellFits, RequestFits}
use Rattle.cell_base.proofs.Admission.{all_numbers, others_from_not_loaded}
use Rattle.policy_laws.proofs.Lists.{All-found, Contains-slice_get, find_passes}
use Rattle.policy_laws.proofs.Stages.{arrival_stage, successor_stage, first_stage}
use Rattle.policy_laws.proofs.Parts.{part_of-found, without-others}
use Rattle.policy_laws.proofs.States.{count-without, count-finish_first, IsState-push, IsState-without, IsState-finish_first}
use Rattle.policy_laws.proofs.States.{first_over-none, within-first_over}
use Rattle.policy_laws.specs.Decisions.{is_saturation, onward, wanted}
use Rattle.banker_check.specs.Orders.{IsOrdered, is_ordered}
use Rattle.banker_check.specs.Hybrid.{IsHybrid, as_hybrid, refuse_h, block, admit_h, outcome_h, outcome_h_of_entry, outcome_h_of_step}
use Rattle.banker_check.specs.Hybrid.{outcome_h_of_move}
use Rattle.banker_check.specs.Laws.{BlockLaw, BlockedLaw, GrantLaw, HybridLaw, IsOverfilled, UnsaturatedLaw}
use Rattle.banker_check.proofs.Greed.{ordered-without}
use Rattle.banker_check.proofs.Ordered.{ordered_law, ordered-finish_first}

-- a hybrid state is one
pub hybrid-state : (cell : Cell) (parts : List Part) → IsHybrid cell parts → IsState cell parts
hybrid-state cell parts hybrid = ⊎_elim (λ admitted. admitted.state) (λ ordered. ordered.state) hybrid

-- the ways in which a request that asks for the state `next` ends by both: refused for another reason than a full neighborhood, granted
-- so that the state stays hybrid, or granted where that state passes
pub data Ending (cell : Cell) (parts next : List Part) : Reply × List Part → HybridReply × List Part → Type 0 where
  refused : (why : Refusal) → is_saturation why ≡ false → Ending cell parts next (refuse why parts) (refuse_h why parts)
  granted : (IsHybrid cell parts → IsHybrid cell next) → Ending cell parts next (Permitted, next) (Granted, next)
  admitted : IsState cell next → Ending cell parts next (admit cell parts next) (admit_h cell parts next)

-- an ending with the reply of the policy
abbrev EndingTold : Cell → List Part → List Part → Reply × List Part → Type 0
EndingTold cell parts next o = Ending cell parts next o (as_hybrid o.0, o.1)

module _ (cell : Cell) where
  hybrid-finish_first : (test : Part → Bool) (parts : List Part) → IsHybrid cell parts → IsHybrid cell (finish_first test parts)
  hybrid-finish_first test parts hybrid =
      ⊎_elim
      (λ admitted. inl (record {
        state = IsState-finish_first cell test parts admitted.state;
        within = λ r h. omega (arith, admitted.within r h, count-finish_first cell test parts r);
      }))
      (λ ordered. inr (ordered-finish_first cell test parts ordered)) hybrid

  hybrid-without : (parts : List Part) (part : Part) → Contains parts part → IsHybrid cell parts → IsHybrid cell (without parts part.job)
  hybrid-without parts part c hybrid =
      ⊎_elim
      (λ admitted. inl (record {
        state = IsState-without cell parts part.job admitted.state;
        within = λ r h. omega (arith, admitted.within r h, count-without cell parts part r admitted.state.distinct c);
      }))
      (λ ordered. inr (ordered-without cell parts part.job ordered)) hybrid

module _ (cell : Cell) (fits : CellFits cell) (parts : List Part) (state : IsState cell parts) where
  entry_ending : (part : Part) → IsStage cell (stage_of part)
      → Ending cell parts (parts ++ part ∷ []) (outcome_of_entry cell parts part) (outcome_h_of_entry cell parts part)
  entry_ending part stage = at (is_loaded parts part.job) refl
    where
      at : (b : Bool) → is_loaded parts part.job ≡ b
          → Ending cell parts (parts ++ part ∷ []) (cond b (refuse JobLoaded parts) (admit cell parts (parts ++ part ∷ [])))
          (cond b (refuse_h JobLoaded parts) (admit_h cell parts (parts ++ part ∷ [])))
      at true e = refused JobLoaded refl
      at false e = admitted (IsState-push cell parts part state (others_from_not_loaded parts part.job e) stage)

  process_ending : (r : ℕ) → EndingTold cell parts (finish_first (is_waiting_on cell r) parts) (outcome_of_process cell parts r)
  process_ending r =
      cond_both (list_any (is_waiting_on cell r) parts) (Permitted, finish_first (is_waiting_on cell r) parts)
      (refuse Idle parts) (EndingTold cell parts (finish_first (is_waiting_on cell r) parts))
      (λ e. granted (hybrid-finish_first cell (is_waiting_on cell r) parts))
      (λ e. refused Idle refl)

  -- the parts where one of them goes on, if there is one and it has a stage to go to
  abbrev gone_on : Option Part → List Part
  gone_on next = option_map_or (λ part. without parts part.job ++ part ∷ []) next parts

  -- a part that goes on by a branch
  step_ending : (part : Part) → (o : Option Stage)
      → ((to : Stage) → o ≡ Some to → Contains (successors cell (stage_of part)) to)
      → Ending cell parts (gone_on (option_map (λ (to : Stage). arrival cell part.job part.kind to.place) o))
      (outcome_of_step cell parts part o) (outcome_h_of_step cell parts part o)
  step_ending part None next = refused NoBranch refl
  step_ending part (Some to) next = admitted
      (IsState-push cell (without parts part.job) (arrival cell part.job part.kind to.place)
      (IsState-without cell parts part.job state) (without-others parts part.job)
      (subst (IsStage cell) (sym (arrival_stage cell fits part to (next to refl)))
      (successor_stage cell fits (stage_of part) to (next to refl))))

  move_ending : (branch : ℕ) (o : Option Part) → Ending cell parts (gone_on (option_and_then (onward cell branch) o))
      (outcome_of_move cell parts o branch) (outcome_h_of_move cell parts o branch)
  move_ending branch None = refused NoSuchJob refl
  move_ending branch (Some part) = on_done (not part.done)
    where
      step : Reply × List Part
      step = outcome_of_step cell parts part (successor cell (stage_of part) branch)

      step_h : HybridReply × List Part
      step_h = outcome_h_of_step cell parts part (successor cell (stage_of part) branch)

      next : List Part
      next = gone_on (onward cell branch part)

      on_last : (last : Bool) → Ending cell parts next (cond last (refuse AtLast parts) step) (cond last (refuse_h AtLast parts) step_h)
      on_last true = refused AtLast refl
      on_last false =
          step_ending part (successor cell (stage_of part) branch) (Contains-slice_get (successors cell (stage_of part)) branch)

      on_done : (waiting : Bool)
          → Ending cell parts next
          (cond waiting (refuse NotProcessed parts) (cond (is_last cell (stage_of part)) (refuse AtLast parts) step))
          (cond waiting (refuse_h NotProcessed parts) (cond (is_last cell (stage_of part)) (refuse_h AtLast parts) step_h))
      on_done true = refused NotProcessed refl
      on_done false = on_last (is_last cell (stage_of part))

  -- a part that goes out
  out_ending : (part : Part) → Contains parts part
      → EndingTold cell parts (without parts part.job) (outcome_of_unload cell parts (Some part))
  out_ending part found =
      let onward : Reply × List Part = if is_last cell (stage_of part) then (Permitted, without parts part.job) else refuse NotLast parts in
      let Ends : Reply × List Part → Type 0 = EndingTold cell parts (without parts part.job) in
      cond_both (not part.done) (refuse NotProcessed parts) onward Ends (λ e. refused NotProcessed refl)
      (λ e. cond_both (is_last cell (stage_of part)) (Permitted, without parts part.job) (refuse NotLast parts) Ends
      (λ f. granted (hybrid-without cell parts part found))
      (λ f. refused NotLast refl))

  unload_ending : (job : JobId) (o : Option Part) → part_of parts job ≡ o
      → EndingTold cell parts (without parts job) (outcome_of_unload cell parts o)
  unload_ending job None is = refused NoSuchJob refl
  unload_ending job (Some part) is =
      let found = part_of-found parts job part is in
      subst (λ (j : JobId). EndingTold cell parts (without parts j) (outcome_of_unload cell parts (Some part))) found.1
      (out_ending part found.0)

  pub ending : (request : Request) → RequestFits cell request
      → Ending cell parts (wanted cell parts request) (outcome cell parts request) (outcome_h cell parts request)
  ending (Load job kind) h = entry_ending (arrival cell job kind 0) (first_stage cell fits kind.0 h)
  ending (Process machine) h = process_ending machine.0
  ending (Move job branch) h = move_ending branch (part_of parts job)
  ending (Unload job) h = unload_ending job (part_of parts job) refl
  ending (Place done kind job place) h = entry_ending (record { job = job; kind = kind; place = place; done = done }) h.0

module _ (cell : Cell) (parts : List Part) where
  -- the next state is granted where the policy admits it, and where it is ordered
  pub admit_h-within : (next : List Part) → first_over cell next ≡ None → admit_h cell parts next ≡ (Granted, next)
  admit_h-within next e = rw e refl

  pub admit_h-ordered : (next : List Part) → IsOrdered cell next → admit_h cell parts next ≡ (Granted, next)
  admit_h-ordered next ordered = at (first_over cell next)
    where
      at : (o : Option ℕ)
          → option_map_or (λ r. if is_ordered cell next then (Granted, next) else block cell parts next r) o (Granted, next) ≡
          (Granted, next)
      at None = refl
      at (Some r) = rw ((ordered_law cell next).1 ordered) refl

  -- and there only
  admit_h-granted : (next : List Part) → IsState cell next → (admit_h cell parts next).0 ≡ Granted → IsHybrid cell next
  admit_h-granted next state = at (first_over cell next) refl
    where
      tested : (b : Bool) (r : ℕ) → is_ordered cell next ≡ b → (cond b (Granted, next) (block cell parts next r)).0 ≡ Granted
          → IsHybrid cell next
      tested true r e f = inr ((ordered_law cell next).0 e)
      tested false r e f = absurd (cc f)

      at : (o : Option ℕ) → first_over cell next ≡ o
          → (option_map_or (λ r. if is_ordered cell next then (Granted, next) else block cell parts next r) o (Granted, next)).0 ≡ Granted
          → IsHybrid cell next
      at None e f = inl (record { state = state; within = within-first_over cell next e })
      at (Some r) e f = tested (is_ordered cell next) r refl f

  -- the state after it is hybrid where the state before it is
  admit_h-hybrid : (next : List Part) → IsState cell next → IsHybrid cell parts → IsHybrid cell (admit_h cell parts next).1
  admit_h-hybrid next state hybrid = at (first_over cell next) refl
    where
      at : (o : Option ℕ) → first_over cell next ≡ o
          → IsHybrid cell (option_map_or (λ r. if is_ordered cell next then (Granted, next) else block cell parts next r) o
          (Granted, next)).1
      at None e = inl (record { state = state; within = within-first_over cell next e })
      at (Some r) e =
          cond_both (is_ordered cell next) (Granted, next) (block cell parts next r) (λ o. IsHybrid cell o.1)
          (λ f. inr ((ordered_law cell next).0 f)) (λ f. hybrid)

pub block_law : (cell : Cell) → BlockLaw cell
block_law cell parts next state = (
  admit_h-granted cell parts next state,
  λ hybrid.
      ⊎_elim (λ admitted. ap (λ o. o.0) (admit_h-within cell parts next (first_over-none cell next admitted.within)))
      (λ ordered. ap (λ o. o.0) (admit_h-ordered cell parts next ordered)) hybrid,
)

ending-granted : (cell : Cell) (parts next : List Part) (o : Reply × List Part) (o_h : HybridReply × List Part)
    → Ending cell parts next o o_h
    → o.0 ≡ Permitted → o_h ≡ (Granted, o.1)
ending-granted cell parts next o o_h (refused why plain) e = absurd (cc e)
ending-granted cell parts next o o_h (granted stays) e = refl
ending-granted cell parts next o o_h (admitted state) e = at (first_over cell next) refl e
  where
    at : (over : Option ℕ) → first_over cell next ≡ over
        → (option_map_or (λ r. refuse (Saturated (record { 0 = r }) (count cell parts r) (capacity_of cell r)) parts) over
        (Permitted, next)).0 ≡ Permitted
        → option_map_or (λ r. if is_ordered cell next then (Granted, next) else block cell parts next r) over (Granted, next)
        ≡ (
          Granted,
          (option_map_or (λ r. refuse (Saturated (record { 0 = r }) (count cell parts r) (capacity_of cell r)) parts) over
              (Permitted, next)).1,
        )
    at None f g = refl
    at (Some r) f g = absurd (cc g)

ending-hybrid : (cell : Cell) (parts next : List Part) (o : Reply × List Part) (o_h : HybridReply × List Part)
    → Ending cell parts next o o_h
    → IsHybrid cell parts → IsHybrid cell o_h.1
ending-hybrid cell parts next o o_h (refused why plain) hybrid = hybrid
ending-hybrid cell parts next o o_h (granted stays) hybrid = stays hybrid
ending-hybrid cell parts next o o_h (admitted state) hybrid = admit_h-hybrid cell parts next state hybrid

ending-unsaturated : (cell : Cell) (parts next : List Part) (o : Reply × List Part) (o_h : HybridReply × List Part)
    → Ending cell parts next o o_h
    → (at : ResId) (held units : ℕ) → o_h.0 ≢ Refused (Saturated at held units)
ending-unsaturated cell parts next o o_h (refused why plain) at held units e =
    let saturated : why ≡ Saturated at held units = cc e in absurd (false≢true (sym plain ∙ ap is_saturation saturated))
ending-unsaturated cell parts next o o_h (granted stays) at held units e = cc e
ending-unsaturated cell parts next o o_h (admitted state) at held units e = of (first_over cell next) e
  where
    tested : (b : Bool) (r : ℕ) → (cond b (Granted, next) (block cell parts next r)).0 ≢ Refused (Saturated at held units)
    tested true r e = cc e
    tested false r e = cc e

    of : (over : Option ℕ)
        → (option_map_or (λ r. if is_ordered cell next then (Granted, next) else block cell parts next r) over (Granted, next)).0
        ≢ Refused (Saturated at held units)
    of None e = cc e
    of (Some r) e = tested (is_ordered cell next) r e

-- the resource that is first over is one of the cell, and overfilled
pub first_overfilled : (cell : Cell) (parts : List Part) (r : ℕ) → first_over cell parts ≡ Some r
    → (r < length cell.resources) × (capacity_of cell r < count cell parts r)
first_overfilled cell parts r e =
    let is_over : ℕ → Bool = λ q. nat_lt (capacity_of cell q) (count cell parts q) in
    let numbers = all_numbers (length cell.resources) (λ q. q < length cell.resources) (λ q h. h) in (
      All-found (λ q. q < length cell.resources) is_over (resource_numbers cell) r numbers e,
      ltb-true _ _ (find_passes is_over (resource_numbers cell) r e),
    )

ending-blocked : (cell : Cell) (parts next : List Part) (o : Reply × List Part) (o_h : HybridReply × List Part)
    → Ending cell parts next o o_h
    → (at : ResId) (held units parts_stuck : ℕ) → o_h.0 ≡ Blocked at held units parts_stuck → IsOverfilled cell at held units
ending-blocked cell parts next o o_h (refused why plain) at held units parts_stuck e = absurd (cc e)
ending-blocked cell parts next o o_h (granted stays) at held units parts_stuck e = absurd (cc e)
ending-blocked cell parts next o o_h (admitted state) at held units parts_stuck e = by (first_over cell next) refl e
  where
    tested : (b : Bool) (r : ℕ) → r < length cell.resources → capacity_of cell r < count cell next r
        → (cond b (Granted, next) (block cell parts next r)).0 ≡ Blocked at held units parts_stuck → IsOverfilled cell at held units
    tested true r within over e = absurd (cc e)
    tested false r within over e =
        let resource : record { 0 = r } ≡ at = cc e in
        let counted : held ≡ count cell next r = cc e in
        let capacity : units ≡ capacity_of cell r = cc e in
        subst (λ at. IsOverfilled cell at held units) resource
        (record { resource = within; capacity = capacity; over = omega (arith, over, counted, capacity) })

    by : (over : Option ℕ) → first_over cell next ≡ over
        → (option_map_or (λ r. if is_ordered cell next then (Granted, next) else block cell parts next r) over (Granted, next)).0
        ≡ Blocked at held units parts_stuck → IsOverfilled cell at held units
    by None f e = absurd (cc e)
    by (Some r) f e =
        let first = first_overfilled cell next r f in
        tested (is_ordered cell next) r first.0 first.1 e

module _ (cell : Cell) (fits : CellFits cell) where
  pub blocked_law : BlockedLaw cell
  blocked_law parts request state h at held units parts_stuck =
      ending-blocked cell parts (wanted cell parts request) (outcome cell parts request) (outcome_h cell parts request) (ending cell fits parts state request h) at held
      units parts_stuck

  pub grant_law : GrantLaw cell
  grant_law parts request state h e =
      ending-granted cell parts (wanted cell parts request) (outcome cell parts request) (outcome_h cell parts request) (ending cell fits parts state request h) e

  pub hybrid_law : HybridLaw cell
  hybrid_law parts request hybrid h =
      ending-hybrid cell parts (wanted cell parts request) (outcome cell parts request) (outcome_h cell parts request)
      (ending cell fits parts (hybrid-state cell parts hybrid) request h) hybrid

  pub unsaturated_law : UnsaturatedLaw cell
  unsaturated_law parts request state h at held units =
      ending-unsaturated cell parts (wanted cell parts request) (outcome cell parts request) (outcome_h cell parts request)
      (ending cell fits parts state request h) at held units
