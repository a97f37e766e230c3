-- The opening of a conversation, and an end before it, as moments.
use Rattle.std.specs.Prelude.{Option, Some, IfSome}
use Rattle.std.proofs.Common.{◌≡◌, ◌⊎◌, ⊎_elim, inl, inr, ℕ, ◌≤◌, List, [], ◌∷◌, length, sym, subst, arith}
use Rattle.outside_io.specs.Disk.{LeavesOnly}
use Rattle.outside_io.specs.Meanings.{DiskMeaning}
use Rattle.outside_io.specs.Moments.{started}
use Rattle.outside_io.specs.Telling.{where_told, told, turned}
use Rattle.cell_base.specs.declared.shifts.Grant.{Grant}
use Rattle.shift_recovery.specs.declared.open_error.OpenFault.{OpenFault}
use Rattle.shift_recovery.specs.declared.open_error.OpenFault.TheVariants as fault
use Rattle.durable_cell.specs.Made.{IsUnmade}
use Rattle.durable_cell.specs.Openings.{IsHandedBack}
use Rattle.live_cell.specs.Openings.{IsOpened}
use Rattle.journal_format.specs.Blanks.{IsBlank}
use Rattle.journal_format.specs.Journals.{StandsFor}
use Rattle.journal_format.specs.Reads.{OnlyReads}
use Rattle.lent_peers.specs.Beside.{IsBeside}
use Rattle.peers.specs.Meanings.{PeerMeaning}
use Rattle.peers.specs.Moments.{IsAmong, IsAt, IsPutting}
use Rattle.record_text.specs.Lines.{head_words, line_of}
use Rattle.peers.specs.Runs.{RunsTo, disk_runs, runs_on, runs_wider}
use Rattle.cell_texts.specs.Tests.{KnownCell}
use Rattle.serve_command.specs.Lives.{IsLive, IsLiveSince, LivesFrom, Ready, Start}
use Rattle.serve_command.specs.LivesThrough.{IsUnopened, start_of}
use Rattle.serve_command.specs.Rounds.{StandsAfter}
use Rattle.serve_command.specs.Talks.{opened}
use Rattle.serve_command.specs.declared.command.TheConstants.{MAX_SERVED}
use Rattle.serve_command.specs.declared.server.Server.{Server}
use Rattle.serve_command.proofs.Living.{none_among, same_bytes}

-- less is told of the file
pub weaker : (o : Option (List ℕ)) (P Q : List ℕ → Type 0) → ((file : List ℕ) → P file → Q file) → IfSome o P → IfSome o Q
weaker o P Q less is = where_told o Q (λ file here. less file (told o P file here is))

module _ {D T : Type 0} (disk : DiskMeaning D) (peer : PeerMeaning T D) (given before : List ℕ) (old : D) (a : T)
    (given_is : peer.given a ≡ Some given) (put_is : peer.taken a ≡ Some before) (clock : peer.since a ≤ disk.moment old) where
  -- ---- an end before the journal is open

  module _ (file line : List ℕ) (new : D) (b : T) (beside : IsBeside disk peer new a b (line ∷ [])) where
    closes : (Q : List ℕ → Type 0) → LeavesOnly disk.moment disk.left_since old new Q → ((c : List ℕ) → disk.may_leave new c → Q c)
        → ((c : List ℕ) → Q c → disk.may_leave old c ⊎ (IsBlank file × ((text : List ℕ) × StandsFor c text [])))
        → RunsTo disk peer a old b new (IsUnopened (disk.may_leave old) given before file line)
    closes Q only now image =
        let left = disk_runs disk peer a old new Q clock only in
        runs_on disk peer a a b old new new (IsUnopened (disk.may_leave old) given before file line)
        (runs_wider disk peer a a old new (λ at. IsAt (peer.given a) (peer.taken a) at × Q at.image)
        (IsUnopened (disk.may_leave old) given before file line) left
        (λ at is. record {
          given_is = same_bytes given at.given (peer.given a) given_is is.0.0;
          put = subst (λ (put : List ℕ). IsAmong before (line ∷ []) put) (sym (same_bytes before at.put (peer.taken a) put_is is.0.1))
              (none_among before (line ∷ []));
          image = image at.image is.1;
        }))
        (runs_wider disk peer a b new new (IsPutting disk.may_leave given before (line ∷ []) new)
        (IsUnopened (disk.may_leave old) given before file line) (beside.runs given before given_is put_is left.clock)
        (λ at put. record { given_is = put.0; put = put.1; image = image at.image (now at.image put.2) }))

    -- it was only read
    pub reads_end : OnlyReads disk.reads_as disk.may_leave disk.moment disk.left_since old new
        → RunsTo disk peer a old b new (IsUnopened (disk.may_leave old) given before file line)
    reads_end reads = closes (disk.may_leave old) reads.any_moment reads.outcomes (λ c is. inl is)

    -- no journal could be made where it was blank
    pub unmade_end : (text : List ℕ) → disk.reads_as old ≡ Some file
        → IsUnmade disk.reads_as disk.may_leave disk.moment disk.left_since old text new
        → RunsTo disk peer a old b new (IsUnopened (disk.may_leave old) given before file line)
    unmade_end text is unmade =
        let after = turned (disk.reads_as old) (disk.reads_as new) (λ _ _. Unit {0}) file is unmade.tells in
        closes (λ c. disk.may_leave old c ⊎ StandsFor c text []) (told _ _ file is unmade.any_moment)
        (λ c left. inr ((told _ _ after.0 after.1 unmade.stands).1 c left))
        (λ c either. ⊎_elim (λ was. inl was) (λ none. inr (told _ _ file is unmade.blank, (text, none))) either)

  -- the disk was not asked
  pub unread_end : (file line : List ℕ) (b : T) → ((c : List ℕ) → disk.left_since old (disk.moment old) c → disk.may_leave old c)
      → IsBeside disk peer old a b (line ∷ []) → RunsTo disk peer a old b old (IsUnopened (disk.may_leave old) given before file line)
  unread_end file line b only_now beside =
      closes file line old b beside (disk.may_leave old) (started disk.moment disk.left_since old (disk.may_leave old) only_now)
      (λ c is. is) (λ c is. inl is)

  -- it is handed back
  pub handed_back : (file line text : List ℕ) (new : D) (b : T) (why : OpenFault) → disk.reads_as old ≡ Some file
      → IsHandedBack disk.reads_as disk.may_leave disk.moment disk.left_since old text new why → IsBeside disk peer new a b (line ∷ [])
      → RunsTo disk peer a old b new (IsUnopened (disk.may_leave old) given before file line)
  handed_back file line text new b (fault.Refused why) is reads beside = reads_end file line new b beside reads
  handed_back file line text new b fault.Device is either beside =
      ⊎_elim (λ reads. reads_end file line new b beside reads) (λ unmade. unmade_end file line new b beside text is unmade) either
  handed_back file line text new b fault.Memory is reads beside = reads_end file line new b beside reads

  -- ---- the journal is open

  module _ (held : KnownCell) (opening : List Grant) where
    abbrev start : Start
    start = start_of given before held opening

    pub lives_since : length opening ≤ MAX_SERVED → (server : Server D) (new : D) (b : T) (file : List ℕ) → disk.reads_as old ≡ Some file
        → server.live.cell ≡ held.cell → StandsAfter disk.reads_as disk.may_leave held.text (opened opening) server
        → IsOpened disk.reads_as disk.may_leave disk.moment disk.left_since old held.text opening server.live.disk
        → LivesFrom disk peer server a new b → RunsTo disk peer a old b new (IsLiveSince (disk.may_leave old) start)
    lives_since few server new b file is cell_is stands_after opened lives =
        let entered = disk_runs disk peer a old opened.found (disk.may_leave old) clock opened.read.any_moment in
        let made = disk_runs disk peer a opened.found server.live.disk (λ c. StandsFor c held.text opening) entered.clock
        (told _ _ file is opened.any_moment) in
        let after = turned (disk.reads_as old) (disk.reads_as server.live.disk) (λ _ _. Unit {0}) file is opened.tells in
        let served = told _ _ after.0 after.1 (lives start (record {
          cell_is = cell_is;
          stands_after = stands_after;
          given_is = given_is;
          put_is = put_is;
          clock = made.clock;
        })) in
        runs_on disk peer a a b old opened.found new (IsLiveSince (disk.may_leave old) start)
        (runs_wider disk peer a a old opened.found (λ at. IsAt (peer.given a) (peer.taken a) at × disk.may_leave old at.image)
        (IsLiveSince (disk.may_leave old) start) entered
        (λ at here. inl (
          same_bytes given at.given (peer.given a) given_is here.0.0,
          same_bytes before at.put (peer.taken a) put_is here.0.1,
          here.1,
        )))
        (runs_on disk peer a a b opened.found server.live.disk new (IsLiveSince (disk.may_leave old) start)
        (runs_wider disk peer a a opened.found server.live.disk
        (λ at. IsAt (peer.given a) (peer.taken a) at × StandsFor at.image held.text opening) (IsLiveSince (disk.may_leave old) start) made
        (λ at here. inr (Ready (same_bytes given at.given (peer.given a) given_is here.0.0) (omega (arith, few))
        (subst (λ (put : List ℕ). IsAmong before (line_of (head_words 0 (length opening)) ∷ []) put)
        (sym (same_bytes before at.put (peer.taken a) put_is here.0.1))
        (none_among before (line_of (head_words 0 (length opening)) ∷ []))) here.1)))
        (runs_wider disk peer a b server.live.disk new (IsLive start) (IsLiveSince (disk.may_leave old) start) served (λ at live. inr live)))
