-- The state after a request that is granted.
use Rattle.std.proofs.Common.{◌≡◌, ℕ, Bool, true, false, not, cond, Option, Some, None, List, [], ◌∷◌, ◌++◌, refl, ap, ◌∙◌}
use Rattle.std.specs.List.{list_any}
use Rattle.std.specs.Option.{option_map_or}
use Rattle.cell_base.specs.declared.cells.Cell.{Cell}
use Rattle.cell_base.specs.declared.requests.JobId.{JobId}
use Rattle.cell_base.specs.declared.requests.Part.{Part}
use Rattle.cell_base.specs.declared.requests.Refusal.{Refusal}
use Rattle.cell_base.specs.declared.requests.Refusal.TheVariants.{JobLoaded, NotProcessed, AtLast, Idle}
use Rattle.cell_base.specs.declared.requests.Reply.{Reply}
use Rattle.cell_base.specs.declared.requests.Reply.TheVariants.{Granted as Permitted, Refused as Denied}
use Rattle.banker_check.specs.declared.replies.HybridReply.{HybridReply}
use Rattle.banker_check.specs.declared.replies.HybridReply.TheVariants.{Granted}
use Rattle.cell_base.specs.Stages.{Stage, stage_of, is_last, successor}
use Rattle.cell_base.specs.Policy.{is_loaded, first_over}
use Rattle.cell_base.specs.Outcomes.{part_of, without, arrival, is_waiting_on, finish_first, refuse, outcome_of_process, outcome_of_unload}
use Rattle.policy_laws.proofs.Granting.{unload-granted}
use Rattle.banker_check.specs.Orders.{is_ordered}
use Rattle.banker_check.specs.Hybrid.{as_hybrid, refuse_h, block, admit_h, outcome_h_of_entry, outcome_h_of_step, outcome_h_of_move}

told-granted : (reply : Reply) → as_hybrid reply ≡ Granted → reply ≡ Permitted
told-granted Permitted e = refl
told-granted (Denied why) e = cc e

module _ (cell : Cell) (parts : List Part) where
  -- a test that refuses where it passes did not pass
  fails : (b : Bool) (why : Refusal) (o : HybridReply × List Part) → (cond b (refuse_h why parts) o).0 ≡ Granted → b ≡ false
  fails true why o e = cc e
  fails false why o e = refl

  admit_h-next : (next : List Part) → (admit_h cell parts next).0 ≡ Granted → (admit_h cell parts next).1 ≡ next
  admit_h-next next = of (first_over cell next)
    where
      tested : (b : Bool) (r : ℕ) → (cond b (Granted, next) (block cell parts next r)).0 ≡ Granted
          → (cond b (Granted, next) (block cell parts next r)).1 ≡ next
      tested true r e = refl
      tested false r e = cc e

      of : (over : Option ℕ)
          → (option_map_or (λ r. cond (is_ordered cell next) (Granted, next) (block cell parts next r)) over (Granted, next)).0 ≡ Granted
          → (option_map_or (λ r. cond (is_ordered cell next) (Granted, next) (block cell parts next r)) over (Granted, next)).1 ≡ next
      of None e = refl
      of (Some r) e = tested (is_ordered cell next) r e

  pub entry-next : (part : Part) → (outcome_h_of_entry cell parts part).0 ≡ Granted → (outcome_h_of_entry cell parts part).1
      ≡ parts ++ part ∷ []
  entry-next part e =
      let absent : is_loaded parts part.job ≡ false = fails _ JobLoaded (admit_h cell parts (parts ++ part ∷ [])) e in
      ap (λ b. (cond b (refuse_h JobLoaded parts) (admit_h cell parts (parts ++ part ∷ []))).1) absent
      ∙ admit_h-next (parts ++ part ∷ []) (rw absent at e)

  pub move-next : (job : JobId) (branch : ℕ) (part : Part) (to : Stage)
      → (outcome_h_of_move cell parts (part_of parts job) branch).0 ≡ Granted → part_of parts job ≡ Some part
      → successor cell (stage_of part) branch ≡ Some to
      → (outcome_h_of_move cell parts (part_of parts job) branch).1
      ≡ without parts part.job ++ arrival cell part.job part.kind to.place ∷ []
  move-next job branch part to e found next =
      let step : HybridReply × List Part = outcome_h_of_step cell parts part (successor cell (stage_of part) branch) in
      let onward : HybridReply × List Part = cond (is_last cell (stage_of part)) (refuse_h AtLast parts) step in
      let on_found : (cond (not part.done) (refuse_h NotProcessed parts) onward).0 ≡ Granted = rw found at e in
      let done : not part.done ≡ false = fails _ NotProcessed onward on_found in
      let on_done : onward.0 ≡ Granted = rw done at on_found in
      let more : is_last cell (stage_of part) ≡ false = fails _ AtLast step on_done in
      let on_more : step.0 ≡ Granted = rw more at on_done in
      ap (λ o. (outcome_h_of_move cell parts o branch).1) found
      ∙ ap (λ b. (cond b (refuse_h NotProcessed parts) onward).1) done
      ∙ ap (λ b. (cond b (refuse_h AtLast parts) step).1) more
      ∙ ap (λ o. (outcome_h_of_step cell parts part o).1) next
      ∙ admit_h-next (without parts part.job ++ arrival cell part.job part.kind to.place ∷ []) (rw next at on_more)

  pub process-next : (r : ℕ) → as_hybrid (outcome_of_process cell parts r).0 ≡ Granted → (outcome_of_process cell parts r).1 ≡ finish_first
      (is_waiting_on cell r) parts
  process-next r = of (list_any (is_waiting_on cell r) parts)
    where
      of : (b : Bool) → as_hybrid (cond b (Permitted, finish_first (is_waiting_on cell r) parts) (refuse Idle parts)).0 ≡ Granted
          → (cond b (Permitted, finish_first (is_waiting_on cell r) parts) (refuse Idle parts)).1 ≡ finish_first
          (is_waiting_on cell r) parts
      of true e = refl
      of false e = cc e

  pub unload-next : (job : JobId) → as_hybrid (outcome_of_unload cell parts (part_of parts job)).0 ≡ Granted
      → (outcome_of_unload cell parts (part_of parts job)).1 ≡ without parts job
  unload-next job e = unload-granted cell parts job (told-granted (outcome_of_unload cell parts (part_of parts job)).0 e)
