-- The requests after the grants of the journal are asked.
use Rattle.std.specs.Prelude.{IfNone}
use Rattle.std.proofs.Common.{ℕ, Option, subst}
use Rattle.std.proofs.lemmas.List.{take_rest}
use Rattle.carry_commands.specs.Starts.{ArePrefix}
use Rattle.carry_commands.proofs.Firsts.{left_granted}
use Rattle.carry_commands.proofs.asking.begin_opened.Goals as goal

pub ask_all-recorded-requires-clause-granted : goal.ask_all-recorded-requires-clause-granted
ask_all-recorded-requires-clause-granted g c =
    let requests = c.args.requests.now in let durable = c.args.durable in
    let first = subst (λ (other : Option ℕ). IfNone other (ArePrefix requests durable.opening)) c.in-None.is c.requires.none in
    rw take_rest (rw c.held-held.ensures (left_granted requests durable.cell durable.opening first c.requires.granted))

pub returns-in-None-clause-begun : goal.returns-in-None-clause-begun
returns-in-None-clause-begun g c =
    let first = subst (λ (other : Option ℕ). IfNone other (ArePrefix c.args.requests.now c.args.durable.opening)) c.in-None.is
    c.requires.none in
    (first, rw take_rest at (rw c.held-held.ensures at c.ask_all-recorded.ensures.begun), c.ask_all-recorded.ensures.stands)
