-- A walk goes on by one line more, and a verdict that a line failed stays.
use Rattle.std.proofs.Common.{◌≡◌, ℕ, zero, suc, ◌+◌, ◌<◌, Bool, true, false, ◌&&◌, ◌==◌, List, [], ◌∷◌, ◌++◌, length}
use Rattle.std.proofs.Common.{length-append, append_assoc, zero-add, Option, Some, None, refl, sym, ap, ◌∙◌, arith}
use Rattle.std.proofs.lemmas.Bool.{and_parts, and_left, and_right}
use Rattle.std.proofs.lemmas.List.FromFn.{length-map-range_with_len}
use Rattle.cell_base.specs.declared.cells.Cell.{Cell}
use Rattle.cell_base.specs.declared.requests.Part.{Part}
use Rattle.cell_base.specs.declared.requests.Request.{Request}
use Rattle.cell_base.specs.Histories.{is_granted, after_requests, all_granted}
use Rattle.cell_base.specs.Outcomes.{reply_to, state_after}
use Rattle.shift_checker.specs.declared.verdict.Why.{Why}
use Rattle.shift_checker.specs.declared.verdict.Why.TheVariants as whys
use Rattle.shift_checker.specs.declared.verdict.Verdict.{Verdict}
use Rattle.shift_checker.specs.declared.verdict.Verdict.TheVariants.{Yes, No}
use Rattle.shift_checker.specs.Judging.{fails_unless, judge_plan, judge_step, verdict_from}
use Rattle.shift_checker.proofs.Adding.{step_line, step_lines, steps_more}
use Rattle.shift_checker.proofs.Carrying.{after_requests-append}
use Rattle.shift_checker.proofs.Verdicts.{all_right, right_after, wrong_after}
use Rattle.shift_checker.proofs.Joined.{all_granted-append}

-- ---- verdicts on lines, and one line more

module _ (ls : List (Option Why)) (n : ℕ) (right : verdict_from 1 ls ≡ Yes) (number : n ≡ 1 + length ls) (o : Option Why) where
  pub verdict_more : verdict_from n (o ∷ []) ≡ verdict_from 1 (ls ++ o ∷ [])
  verdict_more = ap (λ k. verdict_from k (o ∷ [])) number ∙ sym (right_after 1 ls (o ∷ []) right)

  pub number_more : n + 1 ≡ 1 + length (ls ++ o ∷ [])
  number_more = omega (arith, number, length-append ls (o ∷ []))

-- ---- the steps of a plan

module _ (cell : Cell) where
  each_granted : (parts : List Part) (steps : List Request) → all_granted cell parts steps ≡ true → (i : ℕ) → i < length steps
      → judge_step cell parts steps i ≡ None
  each_granted parts [] granted i below = absurd (omega (arith, below))
  each_granted parts (step ∷ steps) granted zero below =
      rw (and_parts (is_granted (reply_to cell parts step)) (all_granted cell (state_after cell parts step) steps) granted).0 refl
  each_granted parts (step ∷ steps) granted (suc i) below =
      each_granted (state_after cell parts step) steps
      (and_parts (is_granted (reply_to cell parts step)) (all_granted cell (state_after cell parts step) steps) granted).1
      i (omega (arith, below))

  module _ (parts : List Part) (steps : List Request) where
    pub steps_right : all_granted cell parts steps ≡ true → (n : ℕ) → verdict_from n (step_lines cell parts steps) ≡ Yes
    steps_right granted n =
        all_right (judge_step cell parts steps) n 0 (length steps)
        (λ i below. ap (judge_step cell parts steps) (zero-add i) ∙ each_granted parts steps granted i below)

    pub length-steps : length (step_lines cell parts steps) ≡ length steps
    length-steps = length-map-range_with_len (judge_step cell parts steps) 0 (length steps)

    module _ (step : Request) where
      abbrev then : List Part
      then = after_requests cell parts steps

      pub all_granted_more : all_granted cell parts (steps ++ step ∷ [])
          ≡ (all_granted cell parts steps && (is_granted (reply_to cell then step) && true))
      all_granted_more = all_granted-append cell parts steps (step ∷ [])

      pub granted_more : all_granted cell parts steps ≡ true → is_granted (reply_to cell then step) ≡ true
          → all_granted cell parts (steps ++ step ∷ []) ≡ true
      granted_more all this = all_granted_more ∙ rw (all, this) refl

      not_granted : is_granted (reply_to cell then step) ≡ false → all_granted cell parts (steps ++ step ∷ []) ≡ false
      not_granted this = all_granted_more ∙ and_right (all_granted cell parts steps) (is_granted (reply_to cell then step) && true)
          (and_left (is_granted (reply_to cell then step)) true this)

      no_plan_line : all_granted cell parts (steps ++ step ∷ []) ≡ false → judge_plan cell parts (steps ++ step ∷ []) ≡ None
      no_plan_line not_all = rw not_all refl

      -- a last step that is not granted fails itself, and not the plan line
      pub last_refused : (up : List (Option Why)) → is_granted (reply_to cell then step) ≡ false
          → up ++ judge_plan cell parts (steps ++ step ∷ []) ∷ step_lines cell parts (steps ++ step ∷ [])
          ≡ (up ++ None ∷ step_lines cell parts steps) ++ step_line cell parts steps step ∷ []
      last_refused up this =
          rw (no_plan_line (not_granted this), steps_more cell parts steps step)
          (sym (append_assoc up (None ∷ step_lines cell parts steps) (step_line cell parts steps step ∷ [])))

      -- a step before the last one
      pub step_more : (up : List (Option Why))
          → up ++ None ∷ step_lines cell parts (steps ++ step ∷ [])
          ≡ (up ++ None ∷ step_lines cell parts steps) ++ step_line cell parts steps step ∷ []
      step_more up =
          rw (steps_more cell parts steps step)
          (sym (append_assoc up (None ∷ step_lines cell parts steps) (step_line cell parts steps step ∷ [])))

      plan_line : all_granted cell parts (steps ++ step ∷ []) ≡ true
          → judge_plan cell parts (steps ++ step ∷ []) ≡ fails_unless (length (state_after cell then step) == 0) whys.Parts
      plan_line all = rw (all, after_requests-append cell parts steps (step ∷ [])) refl

      -- where all steps are granted, the plan line decides
      pub last_granted : (up : List (Option Why)) (plan : ℕ) → verdict_from 1 up ≡ Yes → plan ≡ 1 + length up
          → all_granted cell parts (steps ++ step ∷ []) ≡ true
          → verdict_from plan (fails_unless (length (state_after cell then step) == 0) whys.Parts ∷ [])
          ≡ verdict_from 1 (up ++ judge_plan cell parts (steps ++ step ∷ []) ∷ step_lines cell parts (steps ++ step ∷ []))
      last_granted up plan right number all =
          ap (λ o. verdict_from plan (o ∷ [])) (sym (plan_line all))
          ∙ ap (λ n. verdict_from n (judge_plan cell parts (steps ++ step ∷ []) ∷ [])) number
          ∙ sym (alone (judge_plan cell parts (steps ++ step ∷ [])))
          ∙ sym (right_after 1 up _ right)
        where
          alone : (o : Option Why) → verdict_from (1 + length up) (o ∷ step_lines cell parts (steps ++ step ∷ []))
              ≡ verdict_from (1 + length up) (o ∷ [])
          alone None = all_right (judge_step cell parts (steps ++ step ∷ [])) (1 + length up + 1) 0 (length (steps ++ step ∷ []))
              (λ i below.
              ap (judge_step cell parts (steps ++ step ∷ [])) (zero-add i)
              ∙ each_granted parts (steps ++ step ∷ []) all i below)
          alone (Some why) = refl

      -- a line that failed before the last step still does
      pub last_stays : (up : List (Option Why)) (line : ℕ) (why : Why)
          → verdict_from 1 (up ++ None ∷ step_lines cell parts steps) ≡ No line why
          → verdict_from 1 (up ++ judge_plan cell parts (steps ++ step ∷ []) ∷ step_lines cell parts (steps ++ step ∷ [])) ≡ No line why
      last_stays up line why wrong = by (all_granted cell parts steps) refl where
        by : (all : Bool) → all_granted cell parts steps ≡ all
            → verdict_from 1 (up ++ judge_plan cell parts (steps ++ step ∷ []) ∷ step_lines cell parts (steps ++ step ∷ [])) ≡ No line why
        by true all = wrong_after 1 up _ line why (front_wrong (verdict_from 1 up) refl)
          where
            clash : No line why ≡ Yes → ⊥
            clash is = absurd cc

            front_wrong : (v : Verdict) → verdict_from 1 up ≡ v → verdict_from 1 up ≡ No line why
            front_wrong Yes is = absurd (clash (sym wrong ∙ right_after 1 up _ is ∙ steps_right all (1 + length up + 1)))
            front_wrong (No other reason) is = is ∙ sym (wrong_after 1 up _ other reason is) ∙ wrong
        by false all =
            let not_all : all_granted cell parts (steps ++ step ∷ []) ≡ false =
            all_granted_more ∙ and_left (all_granted cell parts steps) (is_granted (reply_to cell then step) && true) all in
            rw (no_plan_line not_all, step_more up)
            (wrong_after 1 (up ++ None ∷ step_lines cell parts steps) (step_line cell parts steps step ∷ []) line why wrong)
