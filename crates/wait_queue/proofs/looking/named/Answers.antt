-- The neighborhood that a saturation names holds the request back.
use Rattle.std.proofs.Common.{◌≡◌}
use Rattle.cell_base.specs.declared.requests.Refusal.TheVariants.{Saturated}
use Rattle.cell_base.specs.declared.requests.Reply.TheVariants.{Refused}
use Rattle.cell_base.specs.Outcomes.{reply_to}
use Rattle.wait_queue.proofs.Entering.{saturated-held}
use Rattle.wait_queue.proofs.looking.named.Goals as goal

pub returns-in-Refused-Saturated : goal.returns-in-Refused-Saturated
returns-in-Refused-Saturated c =
    let arm = c.in-Refused-Saturated in
    let is : reply_to c.args.core.now.cell c.args.core.now.parts c.args.request.now ≡ Refused (Saturated arm.at arm.field-0-1 arm.field-0-2) =
    cc (arm.is, arm.field-0-is, c.decide.ensures.reply) in
    saturated-held c.args.core.now.cell c.args.core.now.parts c.core_law.ensures.admitted c.core_law.ensures.fits c.args.request.now c.requires.fit
    arm.at arm.field-0-1 arm.field-0-2 is
