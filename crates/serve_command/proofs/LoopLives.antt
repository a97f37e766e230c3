-- A conversation as it goes on, as moments of it.
use Rattle.std.specs.Prelude.{Option, Some, ⊤}
use Rattle.std.specs.List.{concat}
use Rattle.std.specs.Io.KnownBytes.{Appends}
use Rattle.std.proofs.Common.{◌≡◌, ℕ, ◌+◌, ◌≤◌, List, [], ◌∷◌, ◌++◌, length, map, sym, ap, ◌∙◌, subst, arith, append-nil}
use Rattle.std.proofs.lemmas.List.{length-append}
use Rattle.outside_io.specs.Disk.{Turns}
use Rattle.outside_io.specs.Meanings.{DiskMeaning}
use Rattle.outside_io.specs.Puts.{SinkTold}
use Rattle.outside_io.specs.Source.{SourceTold}
use Rattle.outside_io.specs.Telling.{where_told, told, turned}
use Rattle.cell_base.specs.declared.cells.Cell.{Cell}
use Rattle.cell_base.specs.declared.shifts.Grant.{Grant}
use Rattle.cell_base.specs.Histories.{replay}
use Rattle.record_printer.specs.Blocks.{left_in_core}
use Rattle.input_lines.specs.Reading.{LinesState}
use Rattle.record_text.specs.Lines.{head_words, line_of}
use Rattle.lent_peers.specs.Beside.{IsBeside}
use Rattle.peers.specs.Meanings.{PeerMeaning, peer_gave, peer_took}
use Rattle.peers.specs.Reads.{IsRead}
use Rattle.peers.specs.Runs.{RunsTo, runs_on}
use Rattle.serve_command.specs.Asks.{ask_of}
use Rattle.serve_command.specs.Answers.{still_lines}
use Rattle.serve_command.specs.Conversing.{IsConversing, end_lines}
use Rattle.serve_command.specs.Lives.{AreLast, HasRoom, IsLive, IsServedTo, IsStart, LivesTo, Start, talk_then}
use Rattle.serve_command.specs.Rounds.{StandsAfter}
use Rattle.serve_command.specs.Serve.{answered_lines, last_lines}
use Rattle.serve_command.specs.Talks.{Talk, opened, since, talk_after}
use Rattle.serve_command.specs.declared.command.TheConstants.{MAX_SERVED}
use Rattle.serve_command.specs.declared.server.Server.{Server}
use Rattle.serve_command.proofs.Grouping.{granted-after}
use Rattle.serve_command.proofs.Living.{head_lives, last_run, read_run, sent_so}
use Rattle.serve_command.proofs.RoundLives.{grown}

module _ {D T : Type 0} (disk : DiskMeaning D) (peer : PeerMeaning T D) (start : Start) where
  -- one run after another
  pub lives_then : (old mid new : D) (a b c : T) → LivesTo disk peer start old a mid b
      → Turns (disk.reads_as old) (disk.reads_as mid) (λ _ _. ⊤)
      → (peer.since b ≤ disk.moment mid → LivesTo disk peer start mid b new c) → LivesTo disk peer start old a new c
  lives_then old mid new a b c one tells more = where_told (disk.reads_as old) (λ _. RunsTo disk peer a old c new (IsLive start))
      (λ file is.
      let first = told (disk.reads_as old) (λ _. RunsTo disk peer a old b mid (IsLive start)) file is one in
      let after = turned (disk.reads_as old) (disk.reads_as mid) (λ _ _. ⊤) file is tells in
      runs_on disk peer a b c old mid new (IsLive start) first
      (told (disk.reads_as mid) (λ _. RunsTo disk peer b mid c new (IsLive start)) after.0 after.1 (more first.clock)))

  -- the head is put
  pub begins_live : (server : Server D) (a b : T) (line : List ℕ) → IsStart disk peer start server a
      → line ≡ line_of (head_words 0 (length start.opening)) → server.live.len + length server.live.pending ≤ MAX_SERVED
      → IsBeside disk peer server.live.disk a b (line ∷ []) → LivesTo disk peer start server.live.disk a server.live.disk b
  begins_live server a b line is line_is fits beside = where_told (disk.reads_as server.live.disk)
      (λ _. RunsTo disk peer a server.live.disk b server.live.disk (IsLive start))
      (λ file here. head_lives disk peer start
      (omega (arith, fits, is.stands_after.at.number)) server.live.disk a b
      (subst (λ (l : List ℕ). IsBeside disk peer server.live.disk a b (l ∷ [])) line_is beside) is.given_is is.put_is is.clock
      (told _ _ file here is.stands_after.disk).1)

  -- what was said and answered so far
  pub served_to : (server now : Server D) (a b : T) (lines : LinesState) (given : List (List ℕ)) → IsStart disk peer start server a
      → (so : IsConversing disk.reads_as disk.may_leave disk.moment disk.left_since disk.faults (peer_gave peer a b) (peer_took peer a b)
      server.live.cell start.text start.opening server.live.disk now lines given)
      → peer.since b ≤ disk.moment now.live.disk → IsServedTo disk peer start so.text given now lines b
  served_to server now a b lines given is so clock = record {
    cell_is = so.cell_is ∙ is.cell_is;
    stands_after = subst (λ (cell : Cell). StandsAfter disk.reads_as disk.may_leave start.text
        (talk_after cell (opened start.opening) (map (ask_of cell) given)) now) is.cell_is so.stands_after;
    asked = so.asked;
    reads = so.reads;
    given_is = grown start.given (peer.given b) so.text
        (subst (λ (o : Option (List ℕ)). Appends o (peer.given b) so.text) is.given_is so.came);
    put_is = grown start.before (peer.taken b) (concat (answered_lines start.cell start.opening (map (ask_of start.cell) given)))
        (subst (λ (cell : Cell). Appends (Some start.before) (peer.taken b)
        (concat (answered_lines cell start.opening (map (ask_of cell) given)))) is.cell_is
        (subst (λ (o : Option (List ℕ)). Appends o (peer.taken b)
        (concat (answered_lines server.live.cell start.opening (map (ask_of server.live.cell) given)))) is.put_is so.took.taken));
    clock = clock;
  }

  -- the journal has room for the grants so far
  pub has_room : {input : SourceTold} {sink : SinkTold} (server now : Server D) (lines : LinesState) (given : List (List ℕ)) (a : T)
      → IsStart disk peer start server a
      → IsConversing disk.reads_as disk.may_leave disk.moment disk.left_since disk.faults input sink server.live.cell start.text start.opening
      server.live.disk now lines given
      → HasRoom start (map (ask_of start.cell) given)
  has_room server now lines given a is so =
      let cell : Cell = server.live.cell in
      let asks = map (ask_of cell) given in
      let added : List Grant = since cell (opened start.opening) asks in
      subst (λ (c : Cell). length (talk_after c (opened start.opening) (map (ask_of c) given)).granted ≤ MAX_SERVED) is.cell_is
      (omega (
        arith,
        so.room,
        ap (λ (gs : List Grant). length gs) (granted-after cell (opened start.opening) asks),
        length-append start.opening added,
      ))

  -- what is put last
  pub end_lines_are : (now : Server D) (lines : LinesState) (text : List ℕ) (given : List (List ℕ)) (a : T)
      → IsServedTo disk peer start text given now lines a
      → end_lines now ≡ last_lines start.cell (talk_then start (map (ask_of start.cell) given))
  end_lines_are now lines text given a served =
      let talk : Talk = talk_then start (map (ask_of start.cell) given) in
      let parts_are : now.live.parts ≡ replay start.cell talk.granted =
      served.stands_after.at.parts ∙ ap (λ (c : Cell). replay c talk.granted) served.cell_is in
      λ i. still_lines (served.cell_is i) (parts_are i) (served.stands_after.at.waiters i)
      ++ left_in_core (record { cell = served.cell_is i; parts = parts_are i })

  module _ (now : Server D) (lines : LinesState) (text : List ℕ) (given : List (List ℕ)) (a b : T)
      (served : IsServedTo disk peer start text given now lines a) (room : HasRoom start (map (ask_of start.cell) given)) where
    -- a piece of the input is read
    pub read_lives : IsRead disk peer now.live.disk a b → LivesTo disk peer start now.live.disk a now.live.disk b
    read_lives read = where_told (disk.reads_as now.live.disk)
        (λ _. RunsTo disk peer a now.live.disk b now.live.disk (IsLive start))
        (λ file here. read_run disk peer start (map (ask_of start.cell) given) a text served.given_is served.put_is
        (λ more at is. sent_so disk peer start text given lines served.reads room more at is) now.live.disk b served.clock
        (told _ _ file here served.stands_after.disk).1 read)

    -- the last lines are put
    pub last_lives : (last : List (List ℕ)) → AreLast start.cell (talk_then start (map (ask_of start.cell) given)) last
        → IsBeside disk peer now.live.disk a b last → LivesTo disk peer start now.live.disk a now.live.disk b
    last_lives last last_is beside = where_told (disk.reads_as now.live.disk)
        (λ _. RunsTo disk peer a now.live.disk b now.live.disk (IsLive start))
        (λ file here. last_run disk peer start (map (ask_of start.cell) given) a text served.given_is served.put_is last last_is
        (λ at is. sent_so disk peer start text given lines served.reads room [] at
        (is ∙ ap (λ (l : List ℕ). start.given ++ l) (sym (append-nil text)))) now.live.disk b served.clock
        (told _ _ file here served.stands_after.disk).1 beside)

    -- a read fails, and that it did is put
    pub lost_lives : (c : T) (last : List (List ℕ)) → AreLast start.cell (talk_then start (map (ask_of start.cell) given)) last
        → IsRead disk peer now.live.disk a b → peer.given b ≡ peer.given a → IsBeside disk peer now.live.disk b c last
        → LivesTo disk peer start now.live.disk a now.live.disk c
    lost_lives c last last_is read unread beside = where_told (disk.reads_as now.live.disk)
        (λ _. RunsTo disk peer a now.live.disk c now.live.disk (IsLive start))
        (λ file here.
        let stands = (told _ _ file here served.stands_after.disk).1 in
        let first = read_run disk peer start (map (ask_of start.cell) given) a text served.given_is served.put_is
        (λ more at is. sent_so disk peer start text given lines served.reads room more at is) now.live.disk b served.clock stands read in
        runs_on disk peer a b c now.live.disk now.live.disk now.live.disk (IsLive start) first
        (last_run disk peer start (map (ask_of start.cell) given) b text (unread ∙ served.given_is) (read.same ∙ served.put_is) last last_is
        (λ at is. sent_so disk peer start text given lines served.reads room [] at
        (is ∙ ap (λ (l : List ℕ). start.given ++ l) (sym (append-nil text)))) now.live.disk c first.clock stands beside))
