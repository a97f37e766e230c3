-- The state after a request that fits is admitted.
use Rattle.std.proofs.Common.{sym, subst}
use Rattle.cell_base.specs.Fits.{RequestFits}
use Rattle.plain_recount.specs.RecountState.{RecountState}
use Rattle.policy_laws.proofs.Admission.{admission_law}
use Rattle.policy_laws.proofs.Room.{few_parts}
use Rattle.plain_recount.proofs.recount.Recount.ask.Goals as goal

pub invariant_of-self : goal.invariant_of-self
invariant_of-self c =
    let fit : RequestFits c.self.inside.table c.args.request.now =
    subst (λ (standing : RecountState). RequestFits standing.cell c.args.request.now) (sym c.self.view_is) c.requires in (
      record {
        fits = c.self.invariant.0.fits;
        admitted =
            rw c.apply.ensures.parts
            ((admission_law c.self.inside.table c.self.invariant.0.fits c.self.inside.parts.items
            c.self.invariant.0.admitted).request c.args.request.now fit);
        enough = c.apply.ensures.room;
      },
      c.self.invariant.1,
    )

pub reply_to-reply-requires-clause-few : goal.reply_to-reply-requires-clause-few
reply_to-reply-requires-clause-few c =
    rw c.as_slice-parts.ensures.value (few_parts _ c.self.invariant.0.fits _ c.self.invariant.0.admitted)
