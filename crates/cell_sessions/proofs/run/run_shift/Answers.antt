-- Each pass is one of the lock, and keeps its name.
use Rattle.std.proofs.Common.{◌≡◌, length, rules}
use Rattle.cell_lock.proofs.Passes.{all_kept}
use Rattle.cell_sessions.proofs.Sessions.{of_lock}
use Rattle.cell_sessions.proofs.run.run_shift.Goals as goal

pub run_all-requires-clause-lock : goal.run_all-requires-clause-lock
run_all-requires-clause-lock g c κs within = of_lock c.args.cell.now 1 c.args.passes.now c.requires.passes.numbered

pub returns-clause-passes : goal.returns-clause-passes
returns-clause-passes g c =
    let kept : length c.run_all.new.passes ≡ length c.args.passes.now = search rules in
    all_kept c.args.cell.now c.args.passes.now c.run_all.new.passes kept (λ i d within. (c.run_all.ensures i d within).name)
    c.requires.passes
