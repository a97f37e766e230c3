-- What a plan line and a step do to a walk.
use Rattle.std.proofs.Common.{◌≡◌, ℕ, zero, suc, ◌+◌, ◌-◌, ◌<◌, Bool, true, false, ◌==◌, List, [], ◌∷◌, ◌++◌, length}
use Rattle.std.proofs.Common.{length-append, Option, None, refl, sym, ap, ◌∙◌, subst, inl, inr, ◌⊎◌, arith}
use Rattle.std.proofs.Common.{eq-eqb, ne_eqb, ⊎_elim, ◌≢◌}
use Rattle.std.specs.Prelude.{IfSome}
use Rattle.std.specs.Option.{option_to_list}
use Rattle.std.proofs.lemmas.Bool.{cases_eq}
use Rattle.cell_base.specs.declared.cells.Cell.{Cell}
use Rattle.cell_base.specs.declared.requests.Part.{Part}
use Rattle.cell_base.specs.declared.requests.Request.{Request}
use Rattle.cell_base.specs.declared.shifts.Entry.{Entry}
use Rattle.cell_base.specs.Fits.{RequestFits}
use Rattle.cell_base.specs.Histories.{is_granted, after_requests}
use Rattle.cell_base.specs.Outcomes.{reply_to, state_after}
use Rattle.record_text.specs.declared.blocks.Block.{Block}
use Rattle.record_text.specs.declared.blocks.Tail.TheVariants as tails
use Rattle.record_text.specs.declared.record_lines.RecordLine.{RecordLine}
use Rattle.record_text.specs.declared.record_lines.RecordLine.TheVariants as lines
use Rattle.record_text.specs.declared.stages.Head.{Head}
use Rattle.record_text.specs.declared.stages.Stage.{Stage}
use Rattle.record_text.specs.declared.stages.Stage.TheVariants.{Between, Entries, Left, Steps}
use Rattle.record_text.specs.Progress.{Reading, closed}
use Rattle.record_text.specs.Turns.{Suits, turn_of, with_line}
use Rattle.shift_checker.specs.declared.verdict.Why.{Why}
use Rattle.shift_checker.specs.declared.verdict.Why.TheVariants as whys
use Rattle.shift_checker.specs.declared.verdict.Verdict.{Verdict}
use Rattle.shift_checker.specs.declared.verdict.Verdict.TheVariants.{Yes, No}
use Rattle.shift_checker.specs.Carrying.{Carried, unbegun, after_blocks}
use Rattle.shift_checker.specs.Judging.{fails_unless, judge_plan, verdict_from}
use Rattle.shift_checker.specs.Lines.{IsWalked, Walked, carried_by, carried_in, judged}
use Rattle.shift_checker.proofs.Adding.{at, judged_planned}
use Rattle.shift_checker.proofs.Adding.{judged_steps, step_line, step_lines}
use Rattle.shift_checker.proofs.Carrying.{after_requests-append}
use Rattle.shift_checker.proofs.Going.{verdict_more, granted_more, last_refused}
use Rattle.shift_checker.proofs.Going.{step_more, last_granted, length-steps}
use Rattle.shift_checker.proofs.Arms.{Goes, goes}
use Rattle.shift_checker.proofs.BlockLines.{over_more}
use Rattle.shift_checker.proofs.Verdicts.{right_front}

module _ (w : Walked) (n : ℕ) (given : List Block) where
  abbrev cell : Cell
  cell = w.cell

  abbrev here_at : Carried
  here_at = at cell given

  -- ---- the plan line

  planned_at : (head : Head) (entries : List Entry) (left : ℕ) (steps : List Request)
      → carried_in cell here_at head entries
      ≡ after_blocks cell unbegun (closed given head entries (tails.Planned left steps)).0
  planned_at head entries left steps =
      sym
      (over_more cell unbegun given
      (record {
        first_line = head.first_line;
        shift = head.shift;
        after = head.after;
        entries = entries;
        tail = tails.Planned left steps;
      }))

  pub empty_goes : (stage : Stage) (result : Verdict) (new : Walked) → IsWalked n (given, stage) w
      → Suits (turn_of stage) (lines.Plan 0) → new.cell ≡ cell
      → result ≡ verdict_from n (fails_unless (length w.parts == 0) whys.Parts ∷ [])
      → (result ≡ Yes → carried_by new ≡ carried_by w)
      → Goes n cell (with_line n given stage (lines.Plan 0)) result new
  empty_goes (Left head entries left) result new is suits same says back =
      let next : Reading = closed given head entries (tails.Planned left []) in
      goes w n (given, Left head entries left) is next (judge_plan cell (carried_in cell here_at head entries).parts []) result new same
      (judged_planned cell given head entries left [])
      (says ∙ ap (λ (at : Carried). verdict_from n (fails_unless (length at.parts == 0) whys.Parts ∷ [])) is.here)
      (λ yes.
      back yes ∙ is.here ∙ planned_at head entries left [] ∙ ap (λ (cell : Cell). after_blocks cell unbegun next.0) (sym same))
      (λ yes.
      subst (λ (at : Carried). at.count + length (option_to_list at.halted) < n + 1) (sym (back yes)) (omega (arith, is.few)))
      (λ yes.
      subst (λ (at : Carried). IfSome at.halted (RequestFits new.cell)) (sym (back yes))
      (subst (λ (cell : Cell). IfSome w.halted (RequestFits cell)) (sym same) is.fits))
  empty_goes Between result new is suits same says back = absurd suits
  empty_goes (Entries head entries) result new is suits same says back = absurd suits
  empty_goes (Steps head entries left missing steps) result new is suits same says back = absurd suits

  pub plan_goes : (steps : ℕ) (stage : Stage) (result : Verdict) → 0 < steps → IsWalked n (given, stage) w
      → Suits (turn_of stage) (lines.Plan steps) → result ≡ Yes
      → Goes n cell (with_line n given stage (lines.Plan steps)) result (record w { kept = w.parts; plan = n; missing = steps })
  plan_goes steps (Left head entries left) result some is suits says =
      rw (ne_eqb steps 0 (λ none. omega (arith, none, some)))
      (goes w n (given, Left head entries left) is (given, Steps head entries left steps []) None result
      (record w { kept = w.parts; plan = n; missing = steps }) refl
      (judged_steps cell given head entries left steps []) says
      (λ yes. record {
        before = is.here;
        parts = ap (λ (at : Carried). at.parts) is.here;
        granted = refl;
        missing = refl;
        some = some;
        plan = omega arith;
      })
      (λ yes. omega (arith, is.few)) (λ yes. is.fits))
  plan_goes steps Between result some is suits says = absurd suits
  plan_goes steps (Entries head entries) result some is suits says = absurd suits
  plan_goes steps (Steps head entries left missing others) result some is suits says = absurd suits

  -- ---- a step

  pub some_missing : (step : Request) (stage : Stage) → IsWalked n (given, stage) w → Suits (turn_of stage) (lines.Step step)
      → 0 < w.missing
  some_missing step (Steps head entries left missing steps) is suits = omega (arith, is.here.some, is.here.missing)
  some_missing step Between is suits = absurd suits
  some_missing step (Entries head entries) is suits = absurd suits
  some_missing step (Left head entries left) is suits = absurd suits

  module _ (step : Request) where
    abbrev is_right : Bool
    is_right = is_granted (reply_to cell w.parts step)

    -- a step that is not granted
    pub refused_goes : (stage : Stage) (result : Verdict) (new : Walked) → IsWalked n (given, stage) w
        → Suits (turn_of stage) (lines.Step step) → new.cell ≡ cell → is_right ≡ false → result ≡ No n whys.Step
        → Goes n cell (with_line n given stage (lines.Step step)) result new
    refused_goes (Steps head entries left missing steps) result new is suits same refused says =
        ⊎_elim
        (λ (one : missing ≡ 1).
        rw (eq-eqb _ _ one) (fails (closed given head entries (tails.Planned left (steps ++ step ∷ [])))
        (judged_planned cell given head entries left (steps ++ step ∷ []) ∙ last_refused cell parts steps step up not_this
        ∙ ap (λ ls. ls ++ o ∷ []) (sym (judged_steps cell given head entries left missing steps)))))
        (λ (more : missing ≢ 1).
        rw (ne_eqb _ _ more) (fails (given, Steps head entries left (missing - 1) (steps ++ step ∷ []))
        (judged_steps cell given head entries left (missing - 1) (steps ++ step ∷ []) ∙ step_more cell parts steps step up
        ∙ ap (λ ls. ls ++ o ∷ []) (sym (judged_steps cell given head entries left missing steps)))))
        (cases_eq missing 1)
      where
        parts : List Part
        parts = (carried_in cell here_at head entries).parts

        up : List (Option Why)
        up = judged cell (given, Left head entries left)

        o : Option Why
        o = step_line cell parts steps step

        not_this : is_granted (reply_to cell (after_requests cell parts steps) step) ≡ false
        not_this = ap (λ ps. is_granted (reply_to cell ps step)) (sym is.here.parts) ∙ refused

        fails : (next : Reading) → judged cell next ≡ judged cell (given, Steps head entries left missing steps) ++ o ∷ []
            → Goes n cell next result new
        fails next adds = record {
          verdict =
              says ∙ ap (λ b. verdict_from n (fails_unless b whys.Step ∷ [])) (sym not_this)
              ∙ verdict_more (judged cell (given, Steps head entries left missing steps)) n is.right is.number o
              ∙ ap (verdict_from 1) (sym adds);
          walked = λ yes. absurd (clash (sym says ∙ yes));
        } where
          clash : No n whys.Step ≡ Yes → ⊥
          clash is = absurd cc
    refused_goes Between result new is suits same refused says = absurd suits
    refused_goes (Entries head entries) result new is suits same refused says = absurd suits
    refused_goes (Left head entries left) result new is suits same refused says = absurd suits

    -- one that is granted, before the last one
    pub more_goes : (stage : Stage) (result : Verdict) → IsWalked n (given, stage) w
        → Suits (turn_of stage) (lines.Step step) → is_right ≡ true → 1 < w.missing → result ≡ Yes
        → Goes n cell (with_line n given stage (lines.Step step)) result
        (record w { parts = state_after cell w.parts step; missing = w.missing - 1 })
    more_goes (Steps head entries left missing steps) result is suits right more says =
        rw (ne_eqb missing 1 (λ one. omega (arith, one, more, is.here.missing)))
        (goes w n (given, Steps head entries left missing steps) is
        (given, Steps head entries left (missing - 1) (steps ++ step ∷ [])) (step_line cell parts steps step) result
        (record w { parts = state_after cell w.parts step; missing = w.missing - 1 }) refl
        (judged_steps cell given head entries left (missing - 1) (steps ++ step ∷ []) ∙ step_more cell parts steps step up
        ∙ ap (λ ls. ls ++ step_line cell parts steps step ∷ []) (sym (judged_steps cell given head entries left missing steps)))
        (says ∙ ap (λ b. verdict_from n (fails_unless b whys.Step ∷ [])) (sym this))
        (λ yes. record {
          before = is.here.before;
          parts =
              ap (λ ps. state_after cell ps step) is.here.parts
              ∙ sym (after_requests-append cell parts steps (step ∷ []));
          granted = granted_more cell parts steps step is.here.granted this;
          missing = ap (λ k. k - 1) is.here.missing;
          some = omega (arith, more, is.here.missing);
          plan = omega (arith, is.here.plan, length-append steps (step ∷ []));
        })
        (λ yes. omega (arith, is.few)) (λ yes. is.fits))
      where
        parts : List Part
        parts = (carried_in cell here_at head entries).parts

        up : List (Option Why)
        up = judged cell (given, Left head entries left)

        this : is_granted (reply_to cell (after_requests cell parts steps) step) ≡ true
        this = ap (λ ps. is_granted (reply_to cell ps step)) (sym is.here.parts) ∙ right
    more_goes Between result is suits right more says = absurd suits
    more_goes (Entries head entries) result is suits right more says = absurd suits
    more_goes (Left head entries left) result is suits right more says = absurd suits

    -- and the last one
    pub last_goes : (stage : Stage) (result : Verdict) (new : Walked) → IsWalked n (given, stage) w
        → Suits (turn_of stage) (lines.Step step) → new.cell ≡ cell → is_right ≡ true → w.missing ≡ 1
        → result ≡ verdict_from w.plan (fails_unless (length (state_after cell w.parts step) == 0) whys.Parts ∷ [])
        → (result ≡ Yes → carried_by new ≡ record (carried_by w) { parts = w.kept })
        → Goes n cell (with_line n given stage (lines.Step step)) result new
    last_goes (Steps head entries left missing steps) result new is suits same right one says back =
        rw (eq-eqb missing 1 (sym is.here.missing ∙ one)) (record {
          verdict = verdict;
          walked = λ yes. record {
            right = ap (λ cell. verdict_from 1 (judged cell next)) same ∙ sym verdict ∙ yes;
            number = omega (
              arith,
              is.number,
              ap length (judged_steps cell given head entries left missing steps),
              ap length (judged_planned cell given head entries left all),
              length-append up (None ∷ step_lines cell parts steps),
              length-append up (judge_plan cell parts all ∷ step_lines cell parts all),
              length-steps cell parts steps,
              length-steps cell parts all,
              length-append steps (step ∷ []),
              ap (λ (cell : Cell). length (judged cell next)) same,
            );
            here =
                back yes ∙ is.here.before ∙ planned_at head entries left all
                ∙ ap (λ (cell : Cell). after_blocks cell unbegun next.0) (sym same);
            few =
                subst (λ (at : Carried). at.count + length (option_to_list at.halted) < n + 1) (sym (back yes)) (omega (arith, is.few));
            fits =
                subst (λ (at : Carried). IfSome at.halted (RequestFits new.cell)) (sym (back yes))
                (subst (λ (cell : Cell). IfSome w.halted (RequestFits cell)) (sym same) is.fits);
          };
        })
      where
        parts : List Part
        parts = (carried_in cell here_at head entries).parts

        all : List Request
        all = steps ++ step ∷ []

        next : Reading
        next = closed given head entries (tails.Planned left all)

        up : List (Option Why)
        up = judged cell (given, Left head entries left)

        this : is_granted (reply_to cell (after_requests cell parts steps) step) ≡ true
        this = ap (λ ps. is_granted (reply_to cell ps step)) (sym is.here.parts) ∙ right

        clean : verdict_from 1 up ≡ Yes
        clean =
            right_front 1 up (None ∷ step_lines cell parts steps)
            (ap (verdict_from 1) (sym (judged_steps cell given head entries left missing steps)) ∙ is.right)

        plan : w.plan ≡ 1 + length up
        plan = omega (
          arith,
          is.here.plan,
          is.number,
          ap length (judged_steps cell given head entries left missing steps),
          length-append up (None ∷ step_lines cell parts steps),
          length-steps cell parts steps,
        )

        verdict : result ≡ verdict_from 1 (judged cell next)
        verdict =
            says
            ∙ ap (λ ps. verdict_from w.plan (fails_unless (length (state_after cell ps step) == 0) whys.Parts ∷ [])) is.here.parts
            ∙ last_granted cell parts steps step up w.plan clean plan (granted_more cell parts steps step is.here.granted this)
            ∙ ap (verdict_from 1) (sym (judged_planned cell given head entries left all))
    last_goes Between result new is suits same right one says back = absurd suits
    last_goes (Entries head entries) result new is suits same right one says back = absurd suits
    last_goes (Left head entries left) result new is suits same right one says back = absurd suits

-- ---- the plan line and a step, as the calls answer them

zero_or_more : (n : ℕ) → (n ≡ 0) ⊎ (0 < n)
zero_or_more zero = inl refl
zero_or_more (suc n) = inr (omega arith)

module _ (w : Walked) (n : ℕ) (so_far : Reading) (is : IsWalked n so_far w) (result : Verdict) (new : Walked)
    (same : new.cell ≡ w.cell) where
  abbrev Next : RecordLine → Type 0
  Next line = Goes n w.cell (with_line n so_far.0 so_far.1 line) result new

  pub plan_answered : (steps : ℕ) → Suits (turn_of so_far.1) (lines.Plan steps)
      → (steps ≡ 0 → result ≡ verdict_from n (fails_unless (length w.parts == 0) whys.Parts ∷ []))
      → (steps ≡ 0 → result ≡ Yes → carried_by new ≡ carried_by w)
      → (0 < steps → result ≡ Yes) → (0 < steps → new ≡ record w { kept = w.parts; plan = n; missing = steps })
      → Next (lines.Plan steps)
  plan_answered steps suits empty ended begun state = elim (zero_or_more steps) [
    | inl none ↦
        subst (λ steps. Next (lines.Plan steps)) (sym none)
        (empty_goes w n so_far.0 so_far.1 result new is (subst (λ steps. Suits (turn_of so_far.1) (lines.Plan steps)) none suits) same
        (empty none) (ended none))
    | inr some ↦
        subst (λ new. Goes n w.cell (with_line n so_far.0 so_far.1 (lines.Plan steps)) result new) (sym (state some))
        (plan_goes w n so_far.0 steps so_far.1 result some is suits (begun some))
  ]

  pub step_answered : (step : Request) → Suits (turn_of so_far.1) (lines.Step step) → 0 < w.missing
      → (is_granted (reply_to w.cell w.parts step) ≡ false → result ≡ No n whys.Step)
      → (is_granted (reply_to w.cell w.parts step) ≡ true → 1 < w.missing → result ≡ Yes)
      → (is_granted (reply_to w.cell w.parts step) ≡ true → 1 < w.missing
      → new ≡ record w { parts = state_after w.cell w.parts step; missing = w.missing - 1 })
      → (is_granted (reply_to w.cell w.parts step) ≡ true → w.missing ≡ 1
      → result ≡ verdict_from w.plan (fails_unless (length (state_after w.cell w.parts step) == 0) whys.Parts ∷ []))
      → (is_granted (reply_to w.cell w.parts step) ≡ true → w.missing ≡ 1 → result ≡ Yes
      → carried_by new ≡ record (carried_by w) { parts = w.kept })
      → Next (lines.Step step)
  step_answered step suits some refused more state last ended = by (is_granted (reply_to w.cell w.parts step)) refl where
    by : (b : Bool) → is_granted (reply_to w.cell w.parts step) ≡ b → Next (lines.Step step)
    by false wrong = refused_goes w n so_far.0 step so_far.1 result new is suits same wrong (refused wrong)
    by true right =
        ⊎_elim
        (λ (one : w.missing ≡ 1).
        last_goes w n so_far.0 step so_far.1 result new is suits same right one (last right one) (ended right one))
        (λ (others : w.missing ≢ 1).
        let above : 1 < w.missing = omega (arith, some, others) in
        subst (λ new. Goes n w.cell (with_line n so_far.0 so_far.1 (lines.Step step)) result new) (sym (state right above))
        (more_goes w n so_far.0 step so_far.1 result is suits right above (more right above)))
        (cases_eq w.missing 1)
