-- The walk of each command, one line each.
use Rattle.command_words.specs.Words.{Task, Solo, Run, Plan, Drain, Why, Check, Show, Make, Carry, Begin, Hybrid}
use Rattle.command_words.specs.Words.{Queue, Advise, Arrange, Grants, Parts, Feed, Follow, usage_text}
use Rattle.cell_walks.specs.Walks.{Walk}
use Rattle.cell_commands.specs.Check.{check}
use Rattle.cell_commands.specs.Drain.{drain}
use Rattle.cell_commands.specs.Plan.{plan}
use Rattle.cell_commands.specs.Show.{show}
use Rattle.cell_commands.specs.Why.{why}
use Rattle.run_command.specs.Run.{run}
use Rattle.solo_command.specs.Solo.{solo}
use Rattle.make_command.specs.Make.{make}
use Rattle.carry_commands.specs.Begin.{begin}
use Rattle.carry_commands.specs.Carry.{carry}
use Rattle.hybrid_command.specs.Hybrid.{hybrid}
use Rattle.queue_command.specs.Queue.{queue}
use Rattle.order_commands.specs.Orders.{advise, arrange}
use Rattle.look_commands.specs.Grants.{grants}
use Rattle.look_commands.specs.Parts.{parts}
use Rattle.standby_commands.specs.Feed.{feed}
use Rattle.standby_commands.specs.Follow.{follow}

-- the walk of a command
abbrev pub walk_of : Task → Walk
walk_of (Solo cell shift) = solo cell shift
walk_of (Run cell shift journal) = run cell shift
walk_of (Plan cell journal) = plan cell
walk_of (Drain cell journal) = drain cell
walk_of (Why cell journal step) = why cell step
walk_of (Check cell record_file) = check cell record_file
walk_of (Show cell) = show cell
walk_of (Make number) = make usage_text number
walk_of (Carry cell journal other) = carry cell other
walk_of (Begin cell start journal) = begin cell start
walk_of (Hybrid cell shift) = hybrid cell shift
walk_of (Queue cell shift) = queue cell shift
walk_of (Advise cell) = advise cell
walk_of (Arrange cell) = arrange cell
walk_of (Grants cell journal) = grants cell
walk_of (Parts cell journal) = parts cell
walk_of (Feed cell journal from) = feed usage_text cell from
walk_of (Follow cell frames journal) = follow cell frames
