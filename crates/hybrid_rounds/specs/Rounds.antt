-- The history of sessions that ask a hybrid in rounds.
use Rattle.std.specs.Prelude.{ℕ, List, []}
use Rattle.std.specs.List.{All, AllPairs}
use Rattle.cell_base.specs.declared.cells.Cell.{Cell}
use Rattle.cell_base.specs.declared.requests.Part.{Part}
use Rattle.cell_base.specs.declared.shifts.Entry.{Entry}
use Rattle.cell_base.specs.declared.shifts.Shift.{Shift}
use Rattle.cell_base.specs.Histories.{entries_of}
use Rattle.cell_base.specs.Rounds.{IsSession, Precedes, turns_after}
use Rattle.cell_base.specs.Scripts.{IsWholeTrace, begin_at, script_of}
use Rattle.hybrid_rounds.specs.declared.entries.HybridEntry.{HybridEntry}
use Rattle.hybrid_rounds.specs.Histories.{IsLegalHybrid, all_taken}

-- each session went through its script to its end, nobody else asked, and the entries stand in rising order of turn and session
pub record AreInRounds (shift : Shift) (entries : List Entry) : Type 0 where
  pub whole : (session : ℕ) → IsSession shift session
      → IsWholeTrace (script_of shift session) shift.patience (begin_at 0) (entries_of session entries)
  pub sessions : All (λ entry. IsSession shift entry.session) entries
  pub rising : AllPairs Precedes (turns_after [] entries)

-- in each round every session that has not ended asks the hybrid once, in the order of their numbers, until all have ended
pub record IsHybridRoundRobin (cell : Cell) (parts : List Part) (shift : Shift) (history : List HybridEntry) : Type 0 where
  pub legal : IsLegalHybrid cell parts history
  pub rounds : AreInRounds shift (all_taken history)
