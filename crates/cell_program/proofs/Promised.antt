-- What the command of the words promises.
use Rattle.std.proofs.Common.{◌≡◌, ℕ, List, subst, sym}
use Rattle.outside_io.specs.Puts.{SinkTold}
use Rattle.cell_walks.specs.Observed.{Observed}
use Rattle.cell_walks.specs.Promises.{Ends}
use Rattle.cell_walks.specs.Walks.{Walk}
use Rattle.cell_walks.specs.declared.status.Status.{Status}
use Rattle.command_words.specs.Words.{Task, task_in, usage_text, words_of}
use Rattle.command_words.specs.declared.commands.Command.{Command}
use Rattle.command_words.proofs.Written.{one_task}
use Rattle.cell_program.specs.Walks.{walk_of}

module _ (seen : Observed) (sink : SinkTold) (status : Status) where
  -- a command that was run goes its walk, whatever command the words are
  pub ends_as : (found task : Task) → words_of found ≡ words_of task → Ends seen sink (walk_of found) status
      → Ends seen sink (walk_of task) status
  ends_as found task same ends = subst (λ (t : Task). Ends seen sink (walk_of t) status) (one_task found task same) ends

  -- a command goes the walk of what it is
  pub goes_as : (command is : Command) → command ≡ is → Ends seen sink (walk_of (task_in is)) status
      → Ends seen sink (walk_of (task_in command)) status
  goes_as command is same ends = subst (λ (c : Command). Ends seen sink (walk_of (task_in c)) status) (sym same) ends

  -- a walk that prints the line of the commands, which was handed in
  pub by_listed : (walk : List ℕ → Walk) (line : List ℕ) → line ≡ usage_text → Ends seen sink (walk line) status
      → Ends seen sink (walk usage_text) status
  by_listed walk line is ends = subst (λ (l : List ℕ). Ends seen sink (walk l) status) is ends
