-- The numbers of jobs have 32 bits: in the state that grants leave, and in each step of its plan.
use Rattle.std.specs.List.{list_any}
use Rattle.std.specs.Option.{option_map_or}
use Rattle.std.proofs.Common.{◌≡◌, ℕ, zero, suc, ◌^◌, ◌<◌, Bool, true, false, cond, not, Option}
use Rattle.std.proofs.Common.{Some, None, List, [], ◌∷◌, ◌++◌, All, refl, sym, subst, arith}
use Rattle.std.proofs.lemmas.Bool.{cond_both}
use Rattle.std.proofs.lemmas.List.Elements.{All-nil, All-cons, All-contains, All-filter, All-push}
use Rattle.cell_base.specs.declared.cells.Cell.{Cell}
use Rattle.cell_base.specs.declared.requests.JobId.{JobId}
use Rattle.cell_base.specs.declared.requests.Part.{Part}
use Rattle.cell_base.specs.declared.requests.Reply.{Reply}
use Rattle.cell_base.specs.declared.requests.Reply.TheVariants.{Granted}
use Rattle.cell_base.specs.declared.requests.Refusal.TheVariants.{AtLast, Idle, JobLoaded, NotLast, NotProcessed, Saturated}
use Rattle.cell_base.specs.declared.requests.Request.{Request}
use Rattle.cell_base.specs.declared.requests.Request.TheVariants.{Load, Process, Move, Unload, Place}
use Rattle.cell_base.specs.Fits.{CellFits, RequestFits}
use Rattle.cell_base.specs.Neighborhoods.{count}
use Rattle.cell_base.specs.Outcomes.{admit, arrival, finish_first, is_waiting_on, outcome_of_entry, outcome_of_move, outcome_of_process}
use Rattle.cell_base.specs.Outcomes.{outcome_of_step, outcome_of_unload, part_of, refuse, state_after, without}
use Rattle.cell_base.specs.Plans.{resource_of_part, plan_of, plan_step, plan_within, step_of, work}
use Rattle.cell_base.specs.Policy.{IsAdmitted, first_over, is_loaded, is_of_job}
use Rattle.cell_base.specs.Stages.{Stage, capacity_of, is_last, stage_of, successor}
use Rattle.policy_laws.proofs.Lists.{All-found}
use Rattle.policy_laws.proofs.Parts.{All-finish_first}
use Rattle.policy_laws.proofs.Picks.{plan_step-picked}
use Rattle.policy_laws.proofs.Plans.{plan_step_advances}
use Rattle.record_text.specs.Ranges.{StepIsWritten}
use Rattle.step_text.specs.Steps.{job_number}

-- the job of a part
abbrev pub PartInRange : Part → Type 0
PartInRange part = part.job.0 < 2 ^ 32

module _ (cell : Cell) where
  -- a step is to these parts, or is refused
  admit_in_range : (parts next : List Part) → All PartInRange parts → All PartInRange next → All PartInRange (admit cell parts next).1
  admit_in_range parts next before then = at (first_over cell next)
    where
      at : (over : Option ℕ) → All PartInRange
          (option_map_or (λ r. refuse (Saturated (record { 0 = r }) (count cell parts r) (capacity_of cell r)) parts) over
          (Granted, next)).1
      at None = then
      at (Some r) = before

  enters : (parts : List Part) (part : Part) → All PartInRange parts → PartInRange part
      → All PartInRange (outcome_of_entry cell parts part).1
  enters parts part all range =
      cond_both (is_loaded parts part.job) (refuse JobLoaded parts) (admit cell parts (parts ++ part ∷ []))
      (λ (o : Reply × List Part). All PartInRange o.1) (λ e. all)
      (λ e. admit_in_range parts (parts ++ part ∷ []) all (All-push PartInRange parts part all range))

  moves : (parts : List Part) (job : JobId) (branch : ℕ) (found : Option Part) → part_of parts job ≡ found → All PartInRange parts
      → All PartInRange (outcome_of_move cell parts found branch).1
  moves parts job branch None e all = all
  moves parts job branch (Some part) e all =
      cond_both (not part.done) (refuse NotProcessed parts)
      (cond (is_last cell (stage_of part)) (refuse AtLast parts) (outcome_of_step cell parts part (successor cell (stage_of part) branch)))
      (λ (o : Reply × List Part). All PartInRange o.1) (λ e. all)
      (λ e. cond_both (is_last cell (stage_of part)) (refuse AtLast parts)
      (outcome_of_step cell parts part (successor cell (stage_of part) branch))
      (λ (o : Reply × List Part). All PartInRange o.1) (λ e. all) (λ e. at (successor cell (stage_of part) branch)))
    where
      at : (to : Option Stage) → All PartInRange (outcome_of_step cell parts part to).1
      at None = all
      at (Some to) =
          admit_in_range parts (without parts part.job ++ arrival cell part.job part.kind to.place ∷ []) all
          (All-push PartInRange (without parts part.job) (arrival cell part.job part.kind to.place)
          (All-filter (λ other. not (is_of_job part.job other)) PartInRange parts all)
          (All-found PartInRange (is_of_job job) parts part all e))

  unloads : (parts : List Part) (job : JobId) → All PartInRange parts → (found : Option Part)
      → All PartInRange (outcome_of_unload cell parts found).1
  unloads parts job all None = all
  unloads parts job all (Some part) =
      cond_both (not part.done) (refuse NotProcessed parts)
      (cond (is_last cell (stage_of part)) (Granted, without parts part.job) (refuse NotLast parts))
      (λ (o : Reply × List Part). All PartInRange o.1) (λ e. all)
      (λ e. cond_both (is_last cell (stage_of part)) (Granted, without parts part.job) (refuse NotLast parts)
      (λ (o : Reply × List Part). All PartInRange o.1)
      (λ e. All-filter (λ other. not (is_of_job part.job other)) PartInRange parts all) (λ e. all))

  processes : (parts : List Part) (r : ℕ) → All PartInRange parts → All PartInRange (outcome_of_process cell parts r).1
  processes parts r all =
      cond_both (list_any (is_waiting_on cell r) parts) (Granted, finish_first (is_waiting_on cell r) parts) (refuse Idle parts)
      (λ (o : Reply × List Part). All PartInRange o.1)
      (λ e. All-finish_first PartInRange (is_waiting_on cell r) parts (λ part range. range) all) (λ e. all)

  -- after each request
  pub after_in_range : (parts : List Part) (request : Request) → All PartInRange parts → job_number request < 2 ^ 32
      → All PartInRange (state_after cell parts request)
  after_in_range parts (Load job kind) all range = enters parts (arrival cell job kind 0) all range
  after_in_range parts (Process machine) all range = processes parts machine.0 all
  after_in_range parts (Move job branch) all range = moves parts job branch (part_of parts job) refl all
  after_in_range parts (Unload job) all range = unloads parts job all (part_of parts job)
  after_in_range parts (Place done kind job place) all range =
      enters parts (record { job = job; kind = kind; place = place; done = done }) all range

  -- ---- the plan

  -- the step that brings a part on has a line
  step_written : (part : Part) → PartInRange part → RequestFits cell (step_of cell part) → StepIsWritten cell (step_of cell part)
  step_written part range fit = by part.done (is_last cell (stage_of part)) fit
    where
      step : Bool → Bool → Request
      step done last = cond (not done) (Process (record { 0 = resource_of_part cell part })) (cond last (Unload part.job) (Move part.job 0))

      by : (done last : Bool) → RequestFits cell (step done last) → StepIsWritten cell (step done last)
      by false last fit = record { step = fit; job = omega arith }
      by true true fit = record { step = tt; job = range }
      by true false fit = record { step = fit; job = range }

  module _ (fits : CellFits cell) where
    steps_within : (n : ℕ) (parts : List Part) → IsAdmitted cell parts → All PartInRange parts
        → All (StepIsWritten cell) (plan_within cell n parts)
    steps_within zero parts admitted all = All-nil (StepIsWritten cell)
    steps_within (suc n) parts admitted all = at (plan_step cell parts) refl (steps_within n)
      where
        at : (next : Option Request) → plan_step cell parts ≡ next
            → ((then : List Part) → IsAdmitted cell then → All PartInRange then → All (StepIsWritten cell) (plan_within cell n then))
            → All (StepIsWritten cell)
            (option_map_or (λ request. request ∷ plan_within cell n (state_after cell parts request)) next [])
        at None e later = All-nil (StepIsWritten cell)
        at (Some request) e later =
            let picked = plan_step-picked cell parts request e in
            let on = plan_step_advances cell fits parts admitted request e in
            let written : StepIsWritten cell request = subst (StepIsWritten cell) picked.2
            (step_written picked.0 (All-contains PartInRange parts picked.0 all picked.1.stands)
            (subst (RequestFits cell) (sym picked.2) on.fits)) in
            All-cons (StepIsWritten cell) request (plan_within cell n (state_after cell parts request)) written
            (later (state_after cell parts request) on.admitted (after_in_range parts request all written.job))

    -- so has each step of the plan
    pub plan_written : (parts : List Part) → IsAdmitted cell parts → All PartInRange parts → All (StepIsWritten cell) (plan_of cell parts)
    plan_written parts admitted all = steps_within (work cell parts) parts admitted all
