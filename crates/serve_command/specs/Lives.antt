-- Each moment of a live conversation: what was given and put by then, and for which grants a file stands that a crash then may leave.
use Rattle.std.specs.Prelude.{◌≡◌, ◌⊎◌, ℕ, ◌+◌, ◌<◌, ◌≤◌, List, [], ◌∷◌, ◌++◌, length, map, Some, IfSome}
use Rattle.std.specs.List.{concat}
use Rattle.outside_io.specs.Meanings.{DiskMeaning}
use Rattle.cell_base.specs.declared.cells.Cell.{Cell}
use Rattle.cell_base.specs.declared.shifts.Grant.{Grant}
use Rattle.input_lines.specs.Reading.{AreLinesSoFar, LinesState}
use Rattle.journal_format.specs.Journals.{StandsFor, IsBeforeOrAfterAll}
use Rattle.record_text.specs.Lines.{head_words, line_of}
use Rattle.peers.specs.Meanings.{PeerMeaning}
use Rattle.peers.specs.Moments.{Moment, IsAmong}
use Rattle.peers.specs.Runs.{RunsTo}
use Rattle.cell_walks.specs.Statuses.{early_line}
use Rattle.cell_walks.specs.declared.early_end.EarlyEnd.TheVariants.{NotRead}
use Rattle.record_printer.specs.Blocks.{Lines}
use Rattle.serve_command.specs.Answers.{answer, answers, halted_line, line_number}
use Rattle.serve_command.specs.Asks.{ask_of, asks_in}
use Rattle.serve_command.specs.Rounds.{StandsAfter}
use Rattle.serve_command.specs.Serve.{answered_lines, full_line, last_lines}
use Rattle.serve_command.specs.Talks.{IsSettled, Talk, added_by, opened, since, talk_after}
use Rattle.serve_command.specs.declared.asks.Ask.{Ask}
use Rattle.serve_command.specs.declared.command.TheConstants.{MAX_SERVED}
use Rattle.serve_command.specs.declared.server.Server.{Server}

-- What was given and put before; the cell with its text; and the grants of the opening.
pub record Start : Type 0 where
  pub given : List ℕ
  pub before : List ℕ
  pub cell : Cell
  pub text : List ℕ
  pub opening : List Grant

-- the talk after these asks
abbrev pub talk_then : Start → List Ask → Talk
talk_then start asks = talk_after start.cell (opened start.opening) asks

-- the grants after them
abbrev pub grants_then : Start → List Ask → List Grant
grants_then start asks = (talk_then start asks).granted

-- what is put once these asks are answered: the head, and the answers
abbrev pub put_then : Start → List Ask → List ℕ
put_then start asks = start.before ++ concat (answered_lines start.cell start.opening asks)

-- the answers to asks after these
abbrev pub answers_then : Start → List Ask → List Ask → Lines
answers_then start earlier asks = answers start.cell (talk_then start earlier) (length earlier + 1) asks

-- the answer to the first of these asks, if there is one: its own line, and one for each wait that it ends
abbrev pub first_answer : Cell → Talk → ℕ → List Ask → Lines
first_answer cell talk number [] = []
first_answer cell talk number (next ∷ rest) = answer cell talk (line_number number) next

-- the same of asks after these
abbrev pub next_answer : Start → List Ask → List Ask → Lines
next_answer start earlier asks = first_answer start.cell (talk_then start earlier) (length earlier + 1) asks

-- the journal has room for the grants of these asks
abbrev pub HasRoom : Start → List Ask → Type 0
HasRoom start asks = length (grants_then start asks) ≤ MAX_SERVED

-- these asks, in turn, were sent by then, and maybe more; the journal has room for their grants
abbrev pub AreSent : Start → List Ask → Moment → Type 0
AreSent start asks at =
    (text : List ℕ) × (later : List Ask) × (at.given ≡ start.given ++ text) × (asks_in start.cell text ≡ asks ++ later)
    × HasRoom start asks

-- Groups are made stable and answered. Those of the earlier asks are answered; of the last group the answers to the shown asks are put
-- whole, and maybe a front of the next. The file stands for all of the grants; until the first byte of the answers of the last group it may
-- also be without those of this group. Nobody waits whose request could be granted then, or who is to be dropped.
pub record IsServing (start : Start) (at : Moment) : Type 0 where
  pub earlier : List Ask
  pub shown : List Ask
  pub rest : List Ask
  pub sent : AreSent start (earlier ++ shown ++ rest) at
  pub few : length (shown ++ rest) ≤ 512
  pub put : IsAmong (put_then start (earlier ++ shown)) (next_answer start (earlier ++ shown) rest) at.put
  pub unfinished : put.rest ≡ [] → rest ≡ []
  pub settled : IsSettled start.cell (talk_then start (earlier ++ shown ++ rest))
  pub image : StandsFor at.image start.text (grants_then start (earlier ++ shown ++ rest))
      ⊎ ((shown ≡ []) × (at.put ≡ put_then start earlier) × StandsFor at.image start.text (grants_then start earlier))

-- A group could not be made stable. The answers before its first grant are put, and that it halted; the file is without all of its grants,
-- or has them all.
pub record IsHalting (start : Start) (at : Moment) : Type 0 where
  pub earlier : List Ask
  pub before : List Ask
  pub next : Ask
  pub rest : List Ask
  pub sent : AreSent start (earlier ++ before ++ next ∷ rest) at
  pub few : length (before ++ next ∷ rest) ≤ 512
  pub none : since start.cell (talk_then start earlier) before ≡ []
  pub some : 0 < length (added_by start.cell (talk_then start (earlier ++ before)) next)
  pub put : IsAmong (put_then start earlier) (answers_then start earlier before ++ halted_line start.cell next ∷ []) at.put
  pub image : IsBeforeOrAfterAll start.text (grants_then start earlier)
      (since start.cell (talk_then start earlier) (before ++ next ∷ rest)) at.image

-- the last lines after this talk: that the journal is full, that the input could not be read, or who waits still and the plan that drains
-- what is left
abbrev pub AreLast : Cell → Talk → Lines → Type 0
AreLast cell talk last = (last ≡ full_line ∷ []) ⊎ (last ≡ early_line NotRead ∷ []) ⊎ (last ≡ last_lines cell talk)

-- All that was asked is answered, and the last lines are put.
pub record IsEnding (start : Start) (at : Moment) : Type 0 where
  pub asked : List Ask
  pub last : Lines
  pub sent : AreSent start asked at
  pub last_is : AreLast start.cell (talk_then start asked) last
  pub put : IsAmong (put_then start asked) last at.put
  pub settled : IsSettled start.cell (talk_then start asked)
  pub image : StandsFor at.image start.text (grants_then start asked)

-- A moment of a conversation since its journal is open. Each file that a crash then may leave stands for the grants of the opening and of
-- whole groups of at most 512 lines, the last of them all or not at all, with each grant whose answer was put, be it told as granted or as
-- served.
pub data IsLive (start : Start) (at : Moment) : Type 0 where
  Ready : at.given ≡ start.given → HasRoom start [] → IsAmong start.before (line_of (head_words 0 (length start.opening)) ∷ []) at.put
      → StandsFor at.image start.text start.opening → IsLive start at
  Serving : IsServing start at → IsLive start at
  Halting : IsHalting start at → IsLive start at
  Ending : IsEnding start at → IsLive start at

-- .. or, before it is open, nothing is given or put, and a crash leaves what one at entry might have left
abbrev pub IsLiveSince : (List ℕ → Type 0) → Start → Moment → Type 0
IsLiveSince entry start at = ((at.given ≡ start.given) × (at.put ≡ start.before) × entry at.image) ⊎ IsLive start at

-- ---- how it goes on

module _ {D T : Type 0} (disk : DiskMeaning D) (peer : PeerMeaning T D) where
  -- each moment of a run is one of a live conversation, where the disk tells
  abbrev pub LivesTo : Start → D → T → D → T → Type 0
  LivesTo start old first new last = IfSome (disk.reads_as old) (λ _. RunsTo disk peer first old last new (IsLive start))

  -- The conversation begins: the journal is open, and nothing was put.
  pub record IsStart (start : Start) (server : Server D) (t : T) : Type 0 where
    pub cell_is : server.live.cell ≡ start.cell
    pub stands_after : StandsAfter disk.reads_as disk.may_leave start.text (opened start.opening) server
    pub given_is : peer.given t ≡ Some start.given
    pub put_is : peer.taken t ≡ Some start.before
    pub clock : peer.since t ≤ disk.moment server.live.disk

  -- These lines of this text were answered, and no others.
  pub record IsServedTo (start : Start) (text : List ℕ) (given : List (List ℕ)) (server : Server D) (lines : LinesState) (t : T)
      : Type 0 where
    pub cell_is : server.live.cell ≡ start.cell
    pub stands_after : StandsAfter disk.reads_as disk.may_leave start.text (talk_then start (map (ask_of start.cell) given)) server
    pub asked : line_number server.asked ≡ line_number (length given)
    pub reads : AreLinesSoFar text given lines
    pub given_is : peer.given t ≡ Some (start.given ++ text)
    pub put_is : peer.taken t ≡ Some (put_then start (map (ask_of start.cell) given))
    pub clock : peer.since t ≤ disk.moment server.live.disk

  -- a round after these is live
  abbrev pub LivesOn : Server D → LinesState → T → D → T → Type 0
  LivesOn server lines first new last = (start : Start) (text : List ℕ) (given : List (List ℕ))
      → IsServedTo start text given server lines first → LivesTo start server.live.disk first new last

  -- a conversation that begins so is live
  abbrev pub LivesFrom : Server D → T → D → T → Type 0
  LivesFrom server first new last = (start : Start) → IsStart start server first → LivesTo start server.live.disk first new last
