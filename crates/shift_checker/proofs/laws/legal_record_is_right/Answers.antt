-- That the law holds.
use Rattle.shift_checker.proofs.Legal.{record_right}
use Rattle.shift_checker.proofs.laws.legal_record_is_right.Goals as goal

pub returns : goal.returns
returns c =
    record_right c.args.cell.now c.requires.cell c.args.shift c.args.history.now c.requires.fit c.requires.legal c.requires.unhalted
