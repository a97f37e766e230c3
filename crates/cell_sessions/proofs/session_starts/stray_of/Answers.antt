-- A grant of the shift that leads no session on is a stray.
use Rattle.cell_sessions.proofs.Starts.{is_other_shift}
use Rattle.cell_sessions.proofs.session_starts.stray_of.Goals as goal

pub returns : goal.returns
returns c grants reached =
    is_other_shift c.args.shift.now grants c.args.grant.now reached.started (c.if-lead_on.ensures.stray grants reached)
