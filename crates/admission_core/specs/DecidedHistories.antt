-- Histories in which the policy decided each request, by the state before it.
use Rattle.std.specs.Prelude.{◌≡◌, List, ◌∷◌, ◌++◌}
use Rattle.cell_base.specs.declared.cells.Cell.{Cell}
use Rattle.cell_base.specs.declared.requests.Part.{Part}
use Rattle.cell_base.specs.declared.requests.Reply.{Reply}
use Rattle.cell_base.specs.declared.requests.Reply.TheVariants.{Granted}
use Rattle.cell_base.specs.declared.requests.Told.{Told}
use Rattle.cell_base.specs.declared.requests.Told.TheVariants.{Answered, Halted}
use Rattle.cell_base.specs.declared.shifts.Entry.{Entry}
use Rattle.cell_base.specs.Histories.{after}
use Rattle.cell_base.specs.Outcomes.{state_after}
use Rattle.cell_base.specs.Policy.{IsAdmitted}
use Rattle.policy_laws.specs.Decisions.{IsDecided, wanted}

-- the reply to a request: one whose writing halted was granted
abbrev pub reply_in : Told → Reply
reply_in (Answered reply) = reply
reply_in Halted = Granted

-- The policy admits the state before the entry, and the reply is the one that it decides there; a granted request has the state that it
-- asks for.
pub record IsDecidedAt (cell : Cell) (parts : List Part) (entry : Entry) : Type 0 where
  pub admitted : IsAdmitted cell parts
  pub reply : IsDecided cell parts entry.request (reply_in entry.told)
  pub next : entry.told ≡ Answered Granted → state_after cell parts entry.request ≡ wanted cell parts entry.request

-- each entry is decided in the state after those before it
abbrev pub AreDecided : Cell → List Part → List Entry → Type 0
AreDecided cell parts history =
    (before : List Entry) (entry : Entry) (later : List Entry) → history ≡ before ++ entry ∷ later
    → IsDecidedAt cell (after cell parts before) entry
