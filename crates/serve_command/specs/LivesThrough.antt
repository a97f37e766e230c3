-- Each moment of `serve CELL JOURNAL`, from its entry to its return.
use Rattle.std.specs.Prelude.{◌≡◌, ◌⊎◌, ◌≤◌, ℕ, List, [], ◌∷◌, Some, IfSome, Ok}
use Rattle.outside_io.specs.Meanings.{DiskMeaning}
use Rattle.cell_base.specs.declared.shifts.Grant.{Grant}
use Rattle.journal_format.specs.Blanks.{IsBlank}
use Rattle.journal_format.specs.Journals.{StandsFor}
use Rattle.journal_format.specs.Replayed.{opened_as}
use Rattle.peers.specs.Meanings.{PeerMeaning}
use Rattle.peers.specs.Moments.{IsAmong, Moment}
use Rattle.peers.specs.Runs.{RunsTo}
use Rattle.cell_texts.specs.Tests.{KnownCell, cell_reads}
use Rattle.serve_command.specs.Lives.{IsLiveSince, Start}
use Rattle.serve_command.specs.declared.command.TheConstants.{MAX_SERVED}

-- the start of a conversation after these bytes, of this cell and these grants
abbrev pub start_of : List ℕ → List ℕ → KnownCell → List Grant → Start
start_of given before held opening =
    record { given = given; before = before; cell = held.cell; text = held.text; opening = opening }

-- A moment of a command that ends before its journal is open: nothing is read, at most its one line is put, and the file is one that a
-- crash at entry might have left, or, where the disk was blank, one of no grants.
pub record IsUnopened (entry : List ℕ → Type 0) (given before file line : List ℕ) (at : Moment) : Type 0 where
  pub given_is : at.given ≡ given
  pub put : IsAmong before (line ∷ []) at.put
  pub image : entry at.image ⊎ (IsBlank file × ((text : List ℕ) × StandsFor at.image text []))

module _ {D T : Type 0} (disk : DiskMeaning D) (peer : PeerMeaning T D) where
  -- Of a cell that was read: it ends before its journal is open; or the bytes of the journal stand for these grants, and it is live from
  -- then on to its end.
  pub data LivesOnJournal (held : KnownCell) (given before file : List ℕ) (old : D) (first : T) (new : D) (last : T) : Type 0 where
    Unopened : (line : List ℕ) → RunsTo disk peer first old last new (IsUnopened (disk.may_leave old) given before file line)
        → LivesOnJournal held given before file old first new last
    Opened : (opening : List Grant) → opened_as held.cell file held.text MAX_SERVED ≡ Ok opening
        → RunsTo disk peer first old last new (IsLiveSince (disk.may_leave old) (start_of given before held opening))
        → LivesOnJournal held given before file old first new last

  -- It ends before its cell is read, of which these are the bytes; or it goes on with the cell.
  pub data LivesThrough (bytes : (List ℕ → Type 0) → Type 0) (given before file : List ℕ) (old : D) (first : T) (new : D) (last : T)
      : Type 0 where
    Unread : (line : List ℕ) → RunsTo disk peer first old last new (IsUnopened (disk.may_leave old) given before file line)
        → LivesThrough bytes given before file old first new last
    Read : (held : KnownCell) → bytes (λ text. cell_reads text (Ok held)) → LivesOnJournal held given before file old first new last
        → LivesThrough bytes given before file old first new last

  -- this holds of a disk and a peer that tell, and count by one clock
  abbrev pub WhereTold : D → T → (List ℕ → List ℕ → List ℕ → Type 0) → Type 0
  WhereTold old first P = (given before : List ℕ) → peer.given first ≡ Some given → peer.taken first ≡ Some before
      → peer.since first ≤ disk.moment old → IfSome (disk.reads_as old) (P given before)
