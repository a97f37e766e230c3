-- The command promises what its walk does.
use Rattle.carry_commands.proofs.BeginTold.{begin_tells}
use Rattle.cell_commands.proofs.DrainTold.{drain_tells}
use Rattle.run_command.proofs.RunTold.{run_tells}
use Rattle.std.proofs.Common.{sym, ◌∙◌}
use Rattle.cell_walks.proofs.Promising.{promises}
use Rattle.command_words.specs.Words.{Begin, Drain, Follow, Run}
use Rattle.command_words.proofs.Written.{no_task}
use Rattle.standby_commands.proofs.FollowTold.{completes, follow_tells}
use Rattle.cell_program.proofs.Statuses.{causes, numbered}
use Rattle.command_words.specs.Calls.{no_command}
use Rattle.cell_program.specs.Walks.{walk_of}
use Rattle.cell_program.proofs.top.cell_main.Goals as goal

pub returns-clause-command : goal.returns-clause-command
returns-clause-command g c task so = (
  c.run_words-status.result.status,
  c.number.ensures,
  promises _ _ (walk_of task) c.run_words-status.result.status (c.run_words-status.ensures.command task so) c.reads_an_image.ensures,
)

pub returns-clause-none : goal.returns-clause-none
returns-clause-none g c none = (
  c.run_words-status.result.status,
  c.number.ensures,
  promises _ _ no_command c.run_words-status.result.status (c.run_words-status.ensures.none none) c.reads_an_image.ensures,
)

pub returns-clause-serve : goal.returns-clause-serve
returns-clause-serve g c cell journal so = (
  c.run_words-status.result.status,
  c.number.ensures,
  promises _ _ no_command c.run_words-status.result.status
      (c.run_words-status.ensures.none (λ task same. no_task cell journal task (same ∙ sym so))) c.reads_an_image.ensures,
)

pub returns-clause-headline : goal.returns-clause-headline
returns-clause-headline g c cell shift journal so =
    run_tells _ _ cell shift c.run_words-status.result.status c.reads_an_image.ensures
    (promises _ _ (walk_of (Run cell shift journal)) c.run_words-status.result.status
    (c.run_words-status.ensures.command (Run cell shift journal) so) c.reads_an_image.ensures)
    _ c.number.ensures

pub returns-clause-drained : goal.returns-clause-drained
returns-clause-drained g c cell journal so =
    drain_tells _ _ cell c.run_words-status.result.status c.reads_an_image.ensures
    (promises _ _ (walk_of (Drain cell journal)) c.run_words-status.result.status
    (c.run_words-status.ensures.command (Drain cell journal) so) c.reads_an_image.ensures)
    _ c.number.ensures

pub returns-clause-begun : goal.returns-clause-begun
returns-clause-begun g c cell start journal so =
    begin_tells _ _ cell start c.run_words-status.result.status c.reads_an_image.ensures
    (promises _ _ (walk_of (Begin cell start journal)) c.run_words-status.result.status
    (c.run_words-status.ensures.command (Begin cell start journal) so) c.reads_an_image.ensures)
    _ c.number.ensures

pub returns-clause-followed : goal.returns-clause-followed
returns-clause-followed g c cell frames journal so =
    follow_tells _ _ cell frames c.run_words-status.result.status c.reads_an_image.ensures
    (promises _ _ (walk_of (Follow cell frames journal)) c.run_words-status.result.status
    (c.run_words-status.ensures.command (Follow cell frames journal) so) c.reads_an_image.ensures)
    _ c.number.ensures

pub returns-clause-causes : goal.returns-clause-causes
returns-clause-causes g c task so =
    causes _ _ task c.run_words-status.result.status c.reads_an_image.ensures
    (promises _ _ (walk_of task) c.run_words-status.result.status (c.run_words-status.ensures.command task so) c.reads_an_image.ensures)
    _ c.number.ensures

pub returns-clause-goes_through : goal.returns-clause-goes_through
returns-clause-goes_through g c cell frames journal so accepts reads serves takes of_one =
    numbered _ _ c.number.ensures
    (completes _ _ cell frames c.run_words-status.result.status
    (promises _ _ (walk_of (Follow cell frames journal)) c.run_words-status.result.status
    (c.run_words-status.ensures.command (Follow cell frames journal) so) c.reads_an_image.ensures) accepts reads serves takes of_one)
