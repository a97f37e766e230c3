-- The state after a request that fits is admitted.
use Rattle.std.proofs.Common.{sym, subst}
use Rattle.cell_base.specs.Fits.{RequestFits}
use Rattle.admission_core.specs.CoreState.{CoreState}
use Rattle.policy_laws.proofs.Admission.{admission_law}
use Rattle.admission_core.proofs.admission.Core.ask.Goals as goal

pub invariant_of-self : goal.invariant_of-self
invariant_of-self c =
    let sound = c.self.invariant.0 in
    let fit : RequestFits c.self.inside.table c.args.request.now =
    subst (λ (state : CoreState). RequestFits state.cell c.args.request.now) (sym c.self.view_is) c.requires in (
      record {
        fits = sound.fits;
        admitted =
            rw c.ask.ensures.parts
            ((admission_law c.self.inside.table sound.fits c.self.inside.tally.parts.parts sound.admitted).request
            c.args.request.now fit);
        tallied = c.ask.ensures.tallied;
      },
      c.ask.ensures.marked,
    )
