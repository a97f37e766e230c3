-- The commands with their words were printed.
use Rattle.std.proofs.Common.{[], ◌∷◌, refl}
use Rattle.outside_io.specs.Puts.{SinkTold}
use Rattle.cell_walks.specs.DiskTold.{IsUntouched}
use Rattle.cell_walks.specs.Observed.{Observed}
use Rattle.cell_walks.specs.Outcomes.{IsDelivered, printed}
use Rattle.cell_walks.specs.Promises.{Ends}
use Rattle.cell_walks.specs.declared.status.Status.{Status}
use Rattle.cell_walks.specs.declared.status.Status.TheVariants.{NoCommand}
use Rattle.command_words.specs.Calls.{no_command}
use Rattle.command_words.specs.Words.{usage_text}

-- on a disk that was not touched: a call does so for words that are no command
pub ends_at_none : (seen : Observed) (sink : SinkTold) (status : Status) → IsUntouched seen.disk
    → IsDelivered sink (printed NoCommand (usage_text ∷ [])) status → Ends seen sink no_command status
ends_at_none seen sink status still delivered =
    record { outcome = printed NoCommand (usage_text ∷ []); allowed = (refl, still); delivered = delivered }
