-- There are at most as many parts as units.
use Rattle.policy_laws.proofs.Room.{few_parts}
use Rattle.plain_recount.proofs.recount.Recount.decide.Goals as goal

pub reply_to-requires-clause-few : goal.reply_to-requires-clause-few
reply_to-requires-clause-few c = rw c.as_slice-parts.ensures.value (few_parts _ c.self.invariant.0.fits _ c.self.invariant.0.admitted)
