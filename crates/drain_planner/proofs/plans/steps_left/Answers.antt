-- A step more at the end of the list, and one less in the plan; where none is left the list has all steps already.
use Rattle.std.proofs.Common.{◌≡◌, ◌++◌, List, [], ◌∷◌, length, ap, sym, arith, ◌∙◌, append_assoc}
use Rattle.std.proofs.lemmas.List.{length-append}
use Rattle.cell_base.specs.declared.requests.Request.{Request}
use Rattle.cell_base.specs.Plans.{plan_of}
use Rattle.admission_core.specs.CoreState.{CoreState}
use Rattle.drain_planner.proofs.plans.steps_left.Goals as goal
use Rattle.drain_planner.proofs.plans.steps_left.Goals.{in-Some+in_ok-try_push, in_default}

-- the plan of a state
abbrev plan_at : CoreState → List Request
plan_at state = plan_of state.cell state.parts

-- the first step of what is left goes after the steps so far
step_on : (made left all rest : List Request) (step : Request) → made ++ left ≡ all → left ≡ step ∷ rest
    → (made ++ step ∷ []) ++ rest ≡ all
step_on made left all rest step whole first = append_assoc made (step ∷ []) rest ∙ sym (ap (λ xs. made ++ xs) first) ∙ whole

pub loop-preserved : goal.loop-preserved
loop-preserved c = elim c.match-next.branch [
  | in-Some+in_ok-try_push w ↦
      let pushed : c.match-next.steps ≡ c.loop.steps ++ w.in-Some.step ∷ [] = w.steps-is ∙ w.in_ok-try_push.ensures.ok in (
        w.in-Some.ensures.cell ∙ c.loop.invariant.0,
        ap (λ xs. xs ++ plan_at c.next.new.self) pushed
            ∙ step_on c.loop.steps (plan_at c.loop.drainer) (plan_at c.args.drainer.now) (plan_at c.next.new.self) w.in-Some.step
            c.loop.invariant.1 w.in-Some.ensures.some,
        omega (arith, ap length pushed, length-append c.loop.steps (w.in-Some.step ∷ []), c.loop.invariant.2),
      )
  | in_default w ↦
      let none : plan_at c.loop.drainer ≡ [] = ap (plan_of c.loop.drainer.cell) (c.next.ensures.none.0 w.in_default.is) in
      let made : length c.loop.steps ≡ length (plan_at c.args.drainer.now) =
      omega (arith, ap length c.loop.invariant.1, length-append c.loop.steps (plan_at c.loop.drainer), ap length none) in
      let all : c.length-end.result ≡ length (plan_at c.args.drainer.now) =
      c.length-end.ensures.steps in
      absurd (omega (arith, made, all, c.loop.invariant.2, c.loop-test.true))
]
