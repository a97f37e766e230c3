-- One put to a peer beside a disk.
use Rattle.std.specs.Prelude.{◌≡◌, ◌⊎◌, ℕ, ◌≤◌, List}
use Rattle.std.specs.Io.KnownBytes.{Appends}
use Rattle.outside_io.specs.Meanings.{DiskMeaning}
use Rattle.peers.specs.Meanings.{PeerMeaning}
use Rattle.peers.specs.Moments.{Moment, IsDuringPut}
use Rattle.peers.specs.Runs.{HasMoment}
use Rattle.lent_peers.specs.declared.lent.Lent.{Lent}

-- A peer went on while the disk rested and nothing was read: what it took grew, and each moment is one of before, or one at which a part of
-- that was taken.
pub record WentOn {D T : Type 0} (disk : DiskMeaning D) (peer : PeerMeaning T D) (rests : D) (old new : T) : Type 0 where
  pub grew : (more : List ℕ) × Appends (peer.taken old) (peer.taken new) more
  pub unread : peer.given new ≡ peer.given old
  pub ended : peer.has_ended old → peer.has_ended new
  pub no_read : peer.read_faults new ≡ peer.read_faults old
  pub clock : peer.since old ≤ disk.moment rests → peer.since new ≤ disk.moment rests
  pub moments : (at : Moment) → HasMoment disk peer new rests at
      → HasMoment disk peer old rests at ⊎ IsDuringPut disk.may_leave (peer.given old) (peer.taken old) (peer.taken new) rests at
  pub keeps : (at : Moment) → HasMoment disk peer old rests at → HasMoment disk peer new rests at

-- The peer and the disk are the same ones, the disk rests, and the peer went on.
pub record LentOn {D T : Type 0} (disk : DiskMeaning D) (peer : PeerMeaning T D) (old new : Lent D T) : Type 0 where
  pub same_peer : new.peer.ghost_name ≡ old.peer.ghost_name
  pub same_disk : new.disk ≡ old.disk
  pub went_on : WentOn disk peer old.disk.now old.peer.now new.peer.now

-- One put of a piece to the peer.
pub record IsLentPut {D T : Type 0} (disk : DiskMeaning D) (peer : PeerMeaning T D) (old : Lent D T) (piece : List ℕ) (new : Lent D T)
    : Type 0 where
  pub put : peer.was_put old.peer.now piece new.peer.now
  pub lent_on : LentOn disk peer old new
