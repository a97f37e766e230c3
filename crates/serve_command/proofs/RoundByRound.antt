-- What a round, and a piece of the input, make of a conversation over a disk and a peer.
use Rattle.std.proofs.Common.{◌≡◌, ℕ, List, ◌++◌, map, subst}
use Rattle.cell_base.specs.declared.cells.Cell.{Cell}
use Rattle.cell_base.specs.declared.shifts.Grant.{Grant}
use Rattle.input_lines.specs.Reading.{AreLinesSoFar, GivesPiece, LinesState}
use Rattle.lent_peers.specs.Beside.{IsBeside}
use Rattle.outside_io.specs.Meanings.{DiskMeaning}
use Rattle.peers.specs.Meanings.{PeerMeaning, peer_gave, peer_took}
use Rattle.peers.specs.Reads.{IsRead}
use Rattle.cell_walks.specs.declared.status.Status.{Status}
use Rattle.serve_command.specs.Asks.{ask_of}
use Rattle.serve_command.specs.Conversing.{IsConversing, IsServedAfter}
use Rattle.serve_command.specs.Lives.{AreLast, IsStart, LivesOn, LivesTo, Start, talk_then}
use Rattle.serve_command.specs.Rounds.{IsLastRound, IsRound, StandsAfter}
use Rattle.serve_command.specs.Talks.{Talk, opened, talk_after}
use Rattle.serve_command.specs.declared.server.Server.{Server}
use Rattle.serve_command.proofs.Conversing.{input_kept, piece_comes, round_goes, sink_kept, stops}
use Rattle.serve_command.proofs.LoopLives.{has_room, lives_then, lost_lives, read_lives, served_to}

module _ {D T : Type 0} (disk : DiskMeaning D) (peer : PeerMeaning T D) (cell : Cell) (cell_text : List ℕ) (opening : List Grant) (first : D)
    (a : T) where
  -- it goes on up to here
  abbrev pub SoFar : Server D → LinesState → T → List (List ℕ) → Type 0
  SoFar server lines b given = IsConversing disk.reads_as disk.may_leave disk.moment disk.left_since disk.faults (peer_gave peer a b)
      (peer_took peer a b) cell cell_text opening first server lines given

  module _ (old : Server D) (lines : LinesState) (b : T) (given : List (List ℕ)) (so : SoFar old lines b given) (c : T) (new : Server D)
      (later : LinesState) (unread : peer.given c ≡ peer.given b) (no_read : peer.read_faults c ≡ peer.read_faults b) where
    abbrev read_before : IsConversing disk.reads_as disk.may_leave disk.moment disk.left_since disk.faults (peer_gave peer a c)
        (peer_took peer a b) cell cell_text opening first old lines given
    read_before = input_kept disk.reads_as disk.may_leave disk.moment disk.left_since disk.faults cell cell_text opening first old lines given
        (peer_took peer a b) peer.given peer.has_ended peer.read_faults a b c so unread no_read

    abbrev front : Talk
    front = talk_after cell (opened opening) (map (ask_of cell) given)

    -- a round answers a group
    pub round_answers : ((text : List ℕ) (talk : Talk) (said : List ℕ) (before : List (List ℕ))
        → StandsAfter disk.reads_as disk.may_leave text talk old → AreLinesSoFar said before lines
        → (group : List (List ℕ)) × IsRound disk.reads_as disk.may_leave disk.moment disk.left_since disk.faults old.live.cell
        (peer_took peer b c) text talk said before old new later group)
        → peer.faults c ≡ peer.faults b → disk.faults new.live.disk ≡ disk.faults old.live.disk
        → (lines_now : List (List ℕ)) × SoFar new later c lines_now
    round_answers answers no_peer_fault no_disk_fault =
        let said = answers cell_text front so.text given so.stands_after so.reads in (
          given ++ said.0,
          round_goes disk.reads_as disk.may_leave disk.moment disk.left_since disk.faults cell cell_text opening first old lines given
              (peer_gave peer a c) peer.taken peer.was_put peer.faults a b read_before c new later said.0
              (subst (λ (x : Cell). IsRound disk.reads_as disk.may_leave disk.moment disk.left_since disk.faults x (peer_took peer b c)
              cell_text front so.text given old new later said.0) so.cell_is said.1)
              no_peer_fault no_disk_fault,
        )

    -- a round stops
    pub round_stops : (status : Status) → ((text : List ℕ) (talk : Talk) (said : List ℕ) (before : List (List ℕ))
        → StandsAfter disk.reads_as disk.may_leave text talk old → AreLinesSoFar said before lines
        → IsLastRound disk.reads_as disk.may_leave disk.moment disk.left_since disk.faults old.live.cell (peer_took peer b c) text talk said
        before old new later status)
        → IsServedAfter disk.reads_as disk.may_leave disk.moment disk.left_since disk.faults (peer_gave peer a c) (peer_took peer a c) cell
        cell_text opening first new.live.disk status
    round_stops status last = stops disk.reads_as disk.may_leave disk.moment disk.left_since disk.faults cell cell_text opening first old lines
        given (peer_gave peer a c) peer.taken peer.was_put peer.faults a b read_before c new later status
        (subst (λ (x : Cell). IsLastRound disk.reads_as disk.may_leave disk.moment disk.left_since disk.faults x (peer_took peer b c)
        cell_text front so.text given old new later status) so.cell_is
        (last cell_text front so.text given so.stands_after so.reads))

  -- nothing is put while a piece is read
  abbrev pub put_before : (server : Server D) (lines : LinesState) (b : T) (given : List (List ℕ)) → SoFar server lines b given → (c : T)
      → IsRead disk peer server.live.disk b c
      → IsConversing disk.reads_as disk.may_leave disk.moment disk.left_since disk.faults (peer_gave peer a b) (peer_took peer a c) cell
      cell_text opening first server lines given
  put_before server lines b given so c read = sink_kept disk.reads_as disk.may_leave disk.moment disk.left_since disk.faults cell cell_text
      opening first server lines given (peer_gave peer a b) peer.taken peer.was_put peer.faults a b c so read.of_put read.same read.no_put

  -- a piece is read
  pub piece_follows : (server : Server D) (lines : LinesState) (b : T) (given : List (List ℕ)) → SoFar server lines b given → (c : T)
      (later : LinesState) (count : ℕ) → IsRead disk peer server.live.disk b c → GivesPiece (peer.given b) (peer.given c) lines later count
      → peer.read_faults c ≡ peer.read_faults b → SoFar server later c given
  piece_follows server lines b given so c later count read gives no_fault = piece_comes disk.reads_as disk.may_leave disk.moment
      disk.left_since disk.faults cell cell_text opening first server lines later given (peer_took peer a c) peer.given peer.has_ended
      peer.read_faults a b c (put_before server lines b given so c read) count gives no_fault

module _ {D T : Type 0} (disk : DiskMeaning D) (peer : PeerMeaning T D) (start : Start) (server : Server D) (a : T)
    (is : IsStart disk peer start server a) (now : Server D) (lines : LinesState) (b : T) (given : List (List ℕ))
    (so : SoFar disk peer server.live.cell start.text start.opening server.live.disk a now lines b given)
    (lived : LivesTo disk peer start server.live.disk a now.live.disk b) where
  -- a round is live
  pub round_is_live : (new : D) (c : T) → LivesOn disk peer now lines b new c → LivesTo disk peer start server.live.disk a new c
  round_is_live new c lives = lives_then disk peer start server.live.disk now.live.disk new a b c lived so.left.tells
      (λ clock. lives start so.text given (served_to disk peer start server now a b lines given is so clock))

  -- and so is the reading of a piece
  pub read_is_live : (c : T) → IsRead disk peer now.live.disk b c → LivesTo disk peer start server.live.disk a now.live.disk c
  read_is_live c read = lives_then disk peer start server.live.disk now.live.disk now.live.disk a b c lived so.left.tells
      (λ clock. read_lives disk peer start now lines so.text given b c (served_to disk peer start server now a b lines given is so clock)
      (has_room disk peer start server now lines given a is so) read)

  -- and a read that fails, which is put
  pub lost_is_live : (c d : T) (last : List (List ℕ)) → AreLast start.cell (talk_then start (map (ask_of start.cell) given)) last
      → IsRead disk peer now.live.disk b c → peer.given c ≡ peer.given b → IsBeside disk peer now.live.disk c d last
      → LivesTo disk peer start server.live.disk a now.live.disk d
  lost_is_live c d last last_is read unread beside = lives_then disk peer start server.live.disk now.live.disk now.live.disk a b d lived
      so.left.tells
      (λ clock. lost_lives disk peer start now lines so.text given b c
      (served_to disk peer start server now a b lines given is so clock) (has_room disk peer start server now lines given a is so) d last
      last_is read unread beside)
