-- What a call with the words of a command line promises, by its exit status.
use Rattle.std.specs.Prelude.{◌≡◌, ℕ, [], ◌∷◌}
use Rattle.outside_io.specs.Puts.{SinkTold}
use Rattle.cell_walks.specs.Observed.{Observed}
use Rattle.cell_walks.specs.Outcomes.{printed}
use Rattle.cell_walks.specs.Promises.{Promises}
use Rattle.cell_walks.specs.Statuses.{status_number}
use Rattle.cell_walks.specs.Walks.{Answers, Walk}
use Rattle.cell_walks.specs.declared.status.Status.{Status}
use Rattle.cell_walks.specs.declared.status.Status.TheVariants.{NoCommand}
use Rattle.command_words.specs.Words.{usage_text}

-- the number is that of a status with which every walk promises this
abbrev pub PromisesAt : Observed → SinkTold → Walk → ℕ → Type 0
PromisesAt seen sink walk number = (status : Status) × (number ≡ status_number status) × Promises seen sink walk status

-- of words that no command is written as: the commands with their words are printed, status 2
abbrev pub no_command : Walk
no_command = Answers λ input outcome. outcome ≡ printed NoCommand (usage_text ∷ [])
