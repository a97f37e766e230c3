-- Lines that are printed to a peer beside a disk.
use Rattle.std.specs.Prelude.{◌≡◌, ◌≤◌, ℕ, List, Some}
use Rattle.outside_io.specs.Meanings.{DiskMeaning}
use Rattle.peers.specs.Meanings.{PeerMeaning}
use Rattle.peers.specs.Moments.{IsPutting}
use Rattle.peers.specs.Runs.{RunsTo}

-- A first part of these lines was put while the disk rested, and nothing was read. At each moment some of them were put, and of the next
-- maybe a front.
pub record IsBeside {D T : Type 0} (disk : DiskMeaning D) (peer : PeerMeaning T D) (rests : D) (old new : T) (lines : List (List ℕ))
    : Type 0 where
  pub unread : peer.given new ≡ peer.given old
  pub ended : peer.has_ended old → peer.has_ended new
  pub no_read : peer.read_faults new ≡ peer.read_faults old
  pub runs : (given before : List ℕ) → peer.given old ≡ Some given → peer.taken old ≡ Some before
      → peer.since old ≤ disk.moment rests → RunsTo disk peer old rests new rests (IsPutting disk.may_leave given before lines rests)
