-- Each request so far was granted.
use Rattle.std.proofs.Common.{◌≡◌, take}
use Rattle.journal_texts.specs.AskedSteps.{after_plan_steps}
use Rattle.carry_commands.proofs.asking.ask_each.Given as goal

abbrev pub invariant-loop-request : goal.invariant-loop-request
invariant-loop-request g l =
    record { so_far : l.durable ≡ after_plan_steps l.initial.durable l.durable.disk (take l.request-index l.requests) }
