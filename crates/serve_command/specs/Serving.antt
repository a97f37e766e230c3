-- What the server keeps while it answers.
use Rattle.std.specs.Prelude.{◌≡◌, ◌<◌, ◌≤◌, ℕ, ◌+◌, false, List, [], ◌∷◌, ◌++◌, length, map, slice_get, slice_index, Option, None, Some}
use Rattle.std.specs.List.{All}
use Rattle.cell_base.specs.declared.cells.Cell.{Cell}
use Rattle.cell_base.specs.declared.requests.Request.{Request}
use Rattle.cell_base.specs.declared.shifts.Grant.{Grant}
use Rattle.cell_base.specs.Fits.{RequestFits}
use Rattle.cell_base.specs.Histories.{grants, replay}
use Rattle.wait_queue.specs.Watching.{AreFit, AreWatching}
use Rattle.serve_command.specs.Answers.{answers, count_of, halted_line, last_of, line_number, telling_line}
use Rattle.serve_command.specs.Sessions.{SessionTable}
use Rattle.serve_command.specs.Talks.{Said, Talk, added_by, entries_in, said_to, session_grant, since, talk_after}
use Rattle.serve_command.specs.declared.asks.Ask.{Ask}
use Rattle.serve_command.specs.declared.asks.Ask.TheVariants.{Step}
use Rattle.serve_command.specs.declared.command.TheConstants.{MAX_SERVED}
use Rattle.serve_command.specs.declared.replies.TheConstants.{MAX_REPLIES, MAX_WAITERS}
use Rattle.serve_command.specs.FirstGrants.{FirstGrant}
use Rattle.serve_command.specs.declared.server.Server.{Server}

-- each session has so many of these grants, and this is the last of them
pub record HasCounts (grants : List Grant) (table : SessionTable) : Type 0 where
  pub count : (session : ℕ) → session < 65536 → slice_index table.counts session ≡ count_of session grants
  pub last : (session : ℕ) → session < 65536 → slice_get table.last session ≡ Some (last_of session grants)

-- It stands after this talk, of whose grants the last ones may be pending.
pub record StandsAt {D : Type 0} (talk : Talk) (server : Server D) : Type 0 where
  pub fit : All (λ (grant : Grant). RequestFits server.live.cell grant.request) talk.granted
  pub parts : server.live.parts ≡ replay server.live.cell talk.granted
  pub counts : HasCounts talk.granted server.counts
  pub number : server.live.len + length server.live.pending ≡ length talk.granted
  pub waiters : server.queue.waiters ≡ talk.waiters

-- Those that wait are few, and each watches a full neighborhood or is to be looked at.
pub record KeepsWaiters {D : Type 0} (server : Server D) : Type 0 where
  pub fit : AreFit server.live.cell server.queue.waiters
  pub watching : AreWatching server.live.cell server.live.parts server.queue.waiters server.queue.watches
  pub few : length server.queue.waiters ≤ MAX_WAITERS
  pub room : server.queue.room ≡ MAX_WAITERS

-- ---- one ask

-- the first grant of a group after an ask that added these grants: it is kept once it is there
abbrev pub first_after : Option FirstGrant → ℕ → List ℕ → List Grant → Option FirstGrant
first_after (Some first) at line added = Some first
first_after None at line [] = None
first_after None at line (grant ∷ grants) = Some (record { at = at; line = line })

-- a grant was counted, and is the first of its group where there was none
pub record CountsGrant {D : Type 0} (old : Server D) (session : ℕ) (request : Request) (new : Server D) : Type 0 where
  pub live : new.live ≡ old.live
  pub queue : new.queue ≡ old.queue
  pub replies : new.replies ≡ old.replies
  pub asked : new.asked ≡ old.asked
  pub counts : (grants : List Grant) → length grants < 4294967295 → HasCounts grants old.counts
      → HasCounts (grants ++ session_grant session request ∷ []) new.counts
  pub first : new.first
      ≡ first_after old.first (length old.replies) (halted_line old.live.cell (Step session request)) (session_grant session request ∷ [])

-- This was said after this talk of this cell, with this line where its first grant halts.
pub record IsSaid {D : Type 0} (cell : Cell) (talk : Talk) (old : Server D) (halted : List ℕ) (said : Said) (new : Server D) : Type 0 where
  pub at : StandsAt (record { granted = talk.granted ++ grants 0 (entries_in said.told); waiters = said.waiters }) new
  pub replies : new.replies ≡ old.replies ++ map (telling_line cell talk.granted (line_number (old.asked + 1))) said.told
  pub pending : new.live.pending ≡ old.live.pending ++ grants 0 (entries_in said.told)
  pub first : new.first ≡ first_after old.first (length old.replies) halted (grants 0 (entries_in said.told))

-- An ask was answered after this talk of this cell.
abbrev pub IsAskAnswered : {D : Type 0} → Cell → Talk → Server D → Ask → Server D → Type 0
IsAskAnswered cell talk old ask new = IsSaid cell talk old (halted_line cell ask) (said_to cell talk ask) new

-- the cell, the disk and the room stay, and so many grants more may be pending as are not
pub record Stays {D : Type 0} (old new : Server D) : Type 0 where
  pub cell : new.live.cell ≡ old.live.cell
  pub disk : new.live.disk ≡ old.live.disk
  pub len : new.live.len ≡ old.live.len
  pub room : new.live.room ≡ old.live.room
  pub runs : new.live.is_halted ≡ old.live.is_halted
  pub spare : new.live.spare + length new.live.pending ≡ old.live.spare + length old.live.pending

-- One line more was asked; each grant that is pending has its answer.
pub record TakesOneLine {D : Type 0} (old new : Server D) : Type 0 where
  pub stays : Stays old new
  pub told : length new.live.pending + length old.replies ≤ length old.live.pending + length new.replies
  pub asked : new.asked ≡ line_number (old.asked + 1)

-- An ask would be granted after this talk, and the journal has no room for its grant and one of each session that waits.
abbrev pub IsJournalFull : Cell → Talk → Ask → Type 0
IsJournalFull cell talk ask = (0 < length (added_by cell talk ask)) × (MAX_SERVED < length talk.granted + length talk.waiters + 1)

-- An ask was answered, whichever talk the server stood after.
pub record HasAnswered {D : Type 0} (old : Server D) (ask : Ask) (new : Server D) : Type 0 where
  pub said : (talk : Talk) → StandsAt talk old → IsAskAnswered old.live.cell talk old ask new
  pub goes_on : TakesOneLine old new
  pub waiters : KeepsWaiters new

-- An ask found the journal full, whichever talk the server stood after, and changed nothing.
pub record FindsFull {D : Type 0} (old : Server D) (ask : Ask) (new : Server D) : Type 0 where
  pub full : (talk : Talk) → StandsAt talk old → IsJournalFull old.live.cell talk ask
  pub same : new ≡ old

-- ---- a group

-- no group is under way
pub record HasNoGroup {D : Type 0} (server : Server D) : Type 0 where
  pub pending : server.live.pending ≡ []
  pub replies : server.replies ≡ []
  pub first : server.first ≡ None
  pub spare : server.live.spare ≡ MAX_REPLIES
  pub runs : server.live.is_halted ≡ false
  pub room : server.live.room ≡ MAX_SERVED
  pub waiters : KeepsWaiters server

-- where the answer to the first grant of a group stands, and its halted line; the answers begin with that of the line of this number
abbrev pub IsFirstGrant : Cell → Talk → ℕ → List Ask → Option FirstGrant → Type 0
IsFirstGrant cell talk number group None = since cell talk group ≡ []
IsFirstGrant cell talk number group (Some first) =
    (before : List Ask) × (next : Ask) × (rest : List Ask) × (group ≡ before ++ next ∷ rest)
    × (since cell talk before ≡ []) × (0 < length (added_by cell (talk_after cell talk before) next))
    × (first.at ≡ length (answers cell talk number before)) × (first.line ≡ halted_line cell next)

-- These asks were answered as a group after this talk: the answers are kept, and the grants are pending.
pub record IsAnsweredGroup {D : Type 0} (cell : Cell) (talk : Talk) (number : ℕ) (group : List Ask) (new : Server D) : Type 0 where
  pub cell_is : new.live.cell ≡ cell
  pub at : StandsAt (talk_after cell talk group) new
  pub replies : new.replies ≡ answers cell talk (number + 1) group
  pub pending : new.live.pending ≡ since cell talk group
  pub first : IsFirstGrant cell talk (number + 1) group new.first
  pub asked : line_number new.asked ≡ line_number (number + length group)
