-- It promises what its walk does.
use Rattle.cell_walks.proofs.Promising.{promises}
use Rattle.serve_command.proofs.Completing.{serves_all}
use Rattle.serve_command.specs.Serve.{serve}
use Rattle.command_words.specs.Calls.{no_command}
use Rattle.serve_program.proofs.serving.serve_main.Goals as goal

pub returns-clause-promises : goal.returns-clause-promises
returns-clause-promises g c cell journal so = (
  c.serve_or_say-status.result.status,
  c.number.ensures,
  promises _ _ (serve cell) c.serve_or_say-status.result.status (c.serve_or_say-status.ensures.ends cell journal so)
      c.reads_an_image.ensures,
)

pub returns-clause-complete : goal.returns-clause-complete
returns-clause-complete g c cell journal so =
    serves_all _ _ cell c.serve_or_say-status.result.status
    (promises _ _ (serve cell) c.serve_or_say-status.result.status (c.serve_or_say-status.ensures.ends cell journal so)
    c.reads_an_image.ensures)
    _ c.number.ensures

pub returns-clause-none : goal.returns-clause-none
returns-clause-none g c none = (
  c.serve_or_say-status.result.status,
  c.number.ensures,
  promises _ _ no_command c.serve_or_say-status.result.status (c.serve_or_say-status.ensures.none none) c.reads_an_image.ensures,
)
