-- The clauses are lemmas about the first grants of the number.
use Rattle.cell_sessions.proofs.FirstOwn.{begun_all, fault_all, started_all}
use Rattle.cell_sessions.proofs.laws.own_grants_law.Goals as goal

pub returns-clause-started : goal.returns-clause-started
returns-clause-started c grants started = started_all c.args.shift.now c.requires.steps grants started

pub returns-clause-begun : goal.returns-clause-begun
returns-clause-begun c grants progress started begun = begun_all c.args.shift.now c.requires.steps grants progress started begun

pub returns-clause-fault : goal.returns-clause-fault
returns-clause-fault c grants fault is = fault_all c.args.shift.now grants fault is
