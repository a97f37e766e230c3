-- One read of a peer, of what it took and when.
use Rattle.std.specs.Prelude.{◌≡◌, ◌⊎◌, ◌≤◌, ℕ, List}
use Rattle.outside_io.specs.Meanings.{DiskMeaning}
use Rattle.peers.specs.Meanings.{PeerMeaning}
use Rattle.peers.specs.Moments.{Moment, IsDuringRead}
use Rattle.peers.specs.Runs.{HasMoment}

-- Nothing was put, and what was taken is as it was. Each moment is one of before, or one of the read, while the disk rests; none is
-- forgotten. Of the puts the read belongs to the one before it.
pub record IsRead {D T : Type 0} (disk : DiskMeaning D) (peer : PeerMeaning T D) (rests : D) (old new : T) : Type 0 where
  pub same : peer.taken new ≡ peer.taken old
  pub none_handed : peer.handed_on new ≡ peer.handed_on old
  pub of_put : (first : T) (piece : List ℕ) → peer.was_put first piece old → peer.was_put first piece new
  pub no_put : peer.faults new ≡ peer.faults old
  pub clock : peer.since old ≤ disk.moment rests → peer.since new ≤ disk.moment rests
  pub moments : (at : Moment) → HasMoment disk peer new rests at
      → HasMoment disk peer old rests at ⊎ IsDuringRead disk.may_leave (peer.taken old) (peer.given old) (peer.given new) rests at
  pub keeps : (at : Moment) → HasMoment disk peer old rests at → HasMoment disk peer new rests at
