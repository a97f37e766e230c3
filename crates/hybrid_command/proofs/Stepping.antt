-- The first step of a plan, and the plan after it.
use Rattle.std.proofs.Common.{◌≡◌, suc, ◌+◌, Bool, true, false, not, cond, Option, Some, None, List, ◌∷◌, refl, ap, subst, ◌∙◌, arith}
use Rattle.std.specs.Option.{option_map}
use Rattle.std.proofs.lemmas.Option.{none-some, same_Some}
use Rattle.std.specs.List.{find}
use Rattle.cell_base.specs.declared.cells.Cell.{Cell}
use Rattle.cell_base.specs.declared.requests.Part.{Part}
use Rattle.cell_base.specs.declared.requests.Request.{Request}
use Rattle.cell_base.specs.declared.requests.Request.TheVariants.{Process, Move, Unload}
use Rattle.cell_base.specs.Stages.{is_last, stage_of}
use Rattle.cell_base.specs.Fits.{RequestFits}
use Rattle.cell_base.specs.Plans.{next_part, resource_of_part, step_of, work}
use Rattle.cell_base.specs.Policy.{is_admitted}
use Rattle.step_text.specs.Steps.{IsStep}
use Rattle.banker_check.specs.Hybrid.{state_after_h}
use Rattle.banker_check.specs.HybridPlans.{goes_first, plan_h, plan_h_of, plan_h_within}

module _ (cell : Cell) (parts : List Part) (step : Request) (is : plan_h cell parts ≡ Some step) where
  -- a plan begins with its first step
  pub plan_begins : work cell (state_after_h cell parts step) + 1 ≡ work cell parts
      → plan_h_of cell parts ≡ step ∷ plan_h_of cell (state_after_h cell parts step)
  plan_begins nearer =
      let next : List Part = state_after_h cell parts step in
      let more : work cell parts ≡ suc (work cell next) = omega (arith, nearer) in
      ap (λ n. plan_h_within cell n parts) more ∙ rw is refl

  -- what a part asks for is no place
  abbrev Onward : Request → Type 0
  Onward request = RequestFits cell request → IsStep cell request

  step_of-onward : (part : Part) → Onward (step_of cell part)
  step_of-onward part = on part.done (is_last cell (stage_of part))
    where
      on : (done last : Bool)
          → Onward (cond (not done) (Process (record { 0 = resource_of_part cell part })) (cond last (Unload part.job) (Move part.job 0)))
      on false last fits = fits
      on true true fits = fits
      on true false fits = fits

  of_part : (o : Option Part) → option_map (step_of cell) o ≡ Some step → Onward step
  of_part None e = absurd (none-some step e)
  of_part (Some part) e = subst Onward (same_Some _ _ e) (step_of-onward part)

  pub is_step : RequestFits cell step → IsStep cell step
  is_step = at (is_admitted cell parts) is
    where
      at : (b : Bool)
          → cond b (option_map (step_of cell) (next_part cell parts))
          (option_map (step_of cell) (find (goes_first cell parts) parts)) ≡ Some step
          → Onward step
      at true e = of_part (next_part cell parts) e
      at false e = of_part (find (goes_first cell parts) parts) e
