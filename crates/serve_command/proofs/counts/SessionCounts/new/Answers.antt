-- There is none.
use Rattle.std.proofs.Common.{arith}
use Rattle.serve_command.specs.declared.counts.TheConstants.{SESSIONS}
use Rattle.serve_command.proofs.Counting.{none_counted}
use Rattle.serve_command.proofs.counts.SessionCounts.new.Goals as goal

pub returns : goal.returns
returns c = none_counted SESSIONS _ (omega arith) c.in_ok-counts.ensures c.in_ok-last.ensures
