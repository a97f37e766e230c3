-- The steps of a plan: how many they are at most, and that they fit the cell.
use Rattle.std.proofs.Common.{◌≡◌, ℕ, zero, suc, ◌+◌, ◌≤◌, Bool, true, false, cond, List, get_or}
use Rattle.std.proofs.Common.{drop, length-drop, All, Option, Some, None, refl, sym, subst, arith}
use Rattle.std.proofs.lemmas.List.Elements.{All-nil, All-cons, All-weaker}
use Rattle.std.proofs.lemmas.List.Sums.{sum_by-le}
use Rattle.cell_base.specs.declared.cells.Cell.{Cell}
use Rattle.cell_base.specs.declared.requests.Part.{Part}
use Rattle.cell_base.specs.declared.requests.Request.{Request}
use Rattle.cell_base.specs.Fits.{CellFits, RequestFits}
use Rattle.cell_base.specs.Outcomes.{state_after}
use Rattle.cell_base.specs.Plans.{plan_of, plan_step, work, work_at, work_of}
use Rattle.cell_base.specs.Policy.{IsAdmitted}
use Rattle.cell_base.specs.Stages.{IsStage, first_branch_path, places_left, stage_of}
use Rattle.policy_laws.proofs.Limits.{length-route_of}
use Rattle.policy_laws.proofs.Plans.{plan_law}
use Rattle.policy_laws.proofs.Units.{units_law}
use Rattle.policy_laws.proofs.Walks.{length-path_within, work_at-le}
use Rattle.cell_commands.specs.declared.drain.TheConstants.{MAX_PLAN}

module _ (cell : Cell) (fits : CellFits cell) where
  -- two steps for each later place, its own work and the unload
  work_of-few : (part : Part) → IsStage cell (stage_of part) → work_of cell part ≤ 128
  work_of-few part standing =
      let behind = drop 1 (first_branch_path cell (stage_of part)) in
      omega (
        arith,
        sum_by-le (work_at cell) 2 behind (λ k d h. work_at-le cell (get_or behind k d)),
        length-drop 1 (first_branch_path cell (stage_of part)),
        length-path_within cell (places_left cell (stage_of part)) (stage_of part),
        length-route_of cell fits (stage_of part).kind,
        own part.done,
      )
    where
      own : (done : Bool) → cond {A = ℕ} done 0 1 ≤ 1
      own true = omega arith
      own false = omega arith

  -- a plan is no longer than the most steps
  pub work_few : (parts : List Part) → IsAdmitted cell parts → work cell parts ≤ MAX_PLAN
  work_few parts admitted =
      omega (
        arith,
        sum_by-le (work_of cell) 128 parts
            (All-weaker (λ part. IsStage cell (stage_of part)) (λ part. work_of cell part ≤ 128) work_of-few parts admitted.state.standing),
        units_law cell fits parts admitted,
        fits.units,
      )

  -- its steps fit
  pub plan_fits : (parts : List Part) → IsAdmitted cell parts → All (RequestFits cell) (plan_of cell parts)
  plan_fits parts admitted = within (work cell parts) parts admitted refl
    where
      -- the next step, and those after it
      by_step : (n : ℕ) (parts : List Part) → IsAdmitted cell parts → n ≡ work cell parts
          → ((m : ℕ) (behind : List Part) → m + 1 ≡ n → IsAdmitted cell behind → m ≡ work cell behind
          → All (RequestFits cell) (plan_of cell behind))
          → (next : Option Request) → plan_step cell parts ≡ next → All (RequestFits cell) (plan_of cell parts)
      by_step n parts admitted is later None none =
          subst (λ (ps : List Part). All (RequestFits cell) (plan_of cell ps)) (sym ((plan_law cell fits parts admitted).none.0 none))
          (All-nil (RequestFits cell))
      by_step n parts admitted is later (Some request) some =
          let law = plan_law cell fits parts admitted in
          let on = law.step request some in
          let behind : List Part = state_after cell parts request in
          subst (All (RequestFits cell)) (sym (law.onward request some))
          (All-cons (RequestFits cell) request (plan_of cell behind) on.fits
          (later (work cell behind) behind (omega (arith, is, on.nearer)) on.admitted refl))

      within : (n : ℕ) (parts : List Part) → IsAdmitted cell parts → n ≡ work cell parts → All (RequestFits cell) (plan_of cell parts)
      within zero parts admitted is =
          by_step zero parts admitted is (λ m behind no admitted is. absurd (omega (arith, no))) (plan_step cell parts) refl
      within (suc n) parts admitted is =
          by_step (suc n) parts admitted is
          (λ m behind less admitted is. within n behind admitted (omega (arith, less, is))) (plan_step cell parts) refl
