-- What a session does on a cell that it shares with others.
use mathlib.Core.List.{IsPrefix}
use Rattle.std.specs.Prelude.{◌≡◌, ◌⊎◌, ℕ, true, false, List, ◌++◌, length}
use Rattle.cell_base.specs.declared.requests.Request.{Request}
use Rattle.cell_base.specs.declared.shifts.Entry.{Entry}
use Rattle.cell_base.specs.Scripts.{Progress, progress_through, IsTrace, IsWholeTrace, HasEnded, holds_halt}
use Rattle.cell_lock.specs.Passes.{PassState, KeepsName}

-- the pass has come to a later one by asks of its session, each of which was answered with a reply
pub record HasAsked {D : Type 0} (script : List Request) (patience : ℕ) (start at : Progress) (old new : PassState D) : Type 0 where
  pub name : KeepsName old new
  pub seen : IsPrefix old.seen new.seen
  pub entries : List Entry
  pub mine : new.mine ≡ old.mine ++ entries
  pub trace : IsTrace script patience start entries
  pub unhalted : holds_halt entries ≡ false
  pub stands : progress_through start entries ≡ at

-- the session is cut short, since the history that it sees halts or is as long as its limit allows
pub record IsCutShort (script : List Request) (patience : ℕ) (start : Progress) (entries seen : List Entry) (limit : ℕ) : Type 0 where
  pub going : HasEnded script patience (progress_through start entries) → ⊥
  pub stopped : (holds_halt seen ≡ true) ⊎ (length seen ≡ limit)

-- The pass keeps its lock and its number, and its own entries grew by asks of its session, from where the session stood until it has
-- ended or is cut short.
pub record HasRun {D : Type 0} (script : List Request) (patience : ℕ) (start : Progress) (old new : PassState D) : Type 0 where
  pub name : KeepsName old new
  pub seen : IsPrefix old.seen new.seen
  pub entries : List Entry
  pub mine : new.mine ≡ old.mine ++ entries
  pub trace : IsTrace script patience start entries
  pub ends : IsWholeTrace script patience start entries ⊎ IsCutShort script patience start entries new.seen old.lock.opening.limit
