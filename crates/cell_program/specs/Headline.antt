-- What the exit status of each command tells that adds to its journal, fact by fact.
use Rattle.std.specs.Prelude.{ℕ, List}
use Rattle.outside_io.specs.Puts.{SinkTold}
use Rattle.cell_walks.specs.Observed.{Observed}
use Rattle.cell_walks.specs.StatusTells.{StatusTells}
use Rattle.cell_commands.specs.Drain.{drain}
use Rattle.cell_commands.specs.DrainTold.{IsDrainFrom, IsEmptied, IsHaltedDrain}
use Rattle.carry_commands.specs.Begin.{begin}
use Rattle.carry_commands.specs.BeginTold.{IsBeginFrom, IsBegunWhole, IsHaltedBegin}
use Rattle.run_command.specs.Run.{run}
use Rattle.run_command.specs.RunTold.{IsHaltedRun, IsRunOf, IsWholeRun}

-- Of a run of sessions on a journal: with status 0 each session went through its script, and the record of the one history was taken, with
-- the plan that drains the state after it; with status 7 the writing of a grant failed, and no session was granted anything after it.
abbrev pub Headline : Observed → SinkTold → List ℕ → List ℕ → ℕ → Type 0
Headline seen sink cell shift status =
    StatusTells seen sink (run cell shift) (IsRunOf IsWholeRun seen cell shift) (IsRunOf IsHaltedRun seen cell shift) status

-- Of a drain: with status 0 each step of the plan was granted, which empties the cell; with status 7 the writing of a step failed.
abbrev pub Drained : Observed → SinkTold → List ℕ → ℕ → Type 0
Drained seen sink cell status =
    StatusTells seen sink (drain cell) (IsDrainFrom IsEmptied seen cell) (IsDrainFrom IsHaltedDrain seen cell) status

-- Of a begin: with status 0 each request of the start was granted that the journal didn't hold yet; with status 7 the writing of one failed.
abbrev pub Begun : Observed → SinkTold → List ℕ → List ℕ → ℕ → Type 0
Begun seen sink cell start status =
    StatusTells seen sink (begin cell start) (IsBeginFrom IsBegunWhole seen cell start) (IsBeginFrom IsHaltedBegin seen cell start) status
