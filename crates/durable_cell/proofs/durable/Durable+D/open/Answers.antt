-- What is not opened is no refusal, since the disk is not refused.
use Rattle.durable_cell.proofs.durable.Durable+D.open.Goals as goal

pub returns-in-Err-clause-stands : goal.returns-in-Err-clause-stands
returns-in-Err-clause-stands g c file grants is stands due fits =
    rw c.unopened.ensures (c.in-Err.ensures.stands file grants is stands due fits)
