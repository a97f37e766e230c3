-- The steps so far, and after them the plan of the present state, are the whole plan.
use Rattle.std.proofs.Common.{◌≡◌, ◌++◌, length}
use Rattle.cell_base.specs.Plans.{plan_of}
use Rattle.drain_planner.proofs.plans.steps_left.Given as goal

abbrev pub invariant-loop : goal.invariant-loop
invariant-loop l =
    (l.drainer.cell ≡ l.initial.drainer.cell)
    × (l.steps ++ plan_of l.drainer.cell l.drainer.parts ≡ plan_of l.initial.drainer.cell l.initial.drainer.parts)
    × (length l.steps ≡ l.counter)
