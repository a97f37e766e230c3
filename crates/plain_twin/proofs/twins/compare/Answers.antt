-- What is asked leaves the cell, and so does what is not asked.
use Rattle.std.proofs.Common.{ap, ◌∙◌}
use Rattle.admission_core.specs.CoreState.{CoreState}
use Rattle.plain_recount.specs.RecountState.{RecountState}
use Rattle.plain_twin.proofs.twins.compare.Goals as goal
use Rattle.plain_twin.proofs.twins.compare.Goals.{then-request_fits+in_ok-ask_both+in_ok-note, else-request_fits}

pub loop-preserved : goal.loop-preserved
loop-preserved c = elim c.if-request_fits.branch [
  | then-request_fits+in_ok-ask_both+in_ok-note w ↦ record {
    core = ap (λ (core : CoreState). core.cell) w.core-is ∙ w.ask_both.ensures.core ∙ c.loop.invariant.core;
    recount = ap (λ (recount : RecountState). recount.cell) w.recount-is ∙ w.ask_both.ensures.recount ∙ c.loop.invariant.recount;
  }
  | else-request_fits w ↦ record {
    core = ap (λ (core : CoreState). core.cell) w.core-is ∙ c.loop.invariant.core;
    recount = ap (λ (recount : RecountState). recount.cell) w.recount-is ∙ c.loop.invariant.recount;
  }
]
