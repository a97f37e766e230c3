-- How moments go on over calls of a disk and of a peer.
use Rattle.std.specs.Prelude.{◌⊎◌, ℕ, ◌≤◌, List}
use Rattle.std.proofs.Common.{inl, inr, ⊎_elim, arith}
use Rattle.outside_io.specs.Disk.{LeavesOnly}
use Rattle.outside_io.specs.Meanings.{DiskMeaning}
use Rattle.peers.specs.Meanings.{PeerMeaning}
use Rattle.peers.specs.Moments.{Moment, IsAt, IsMoment}

module _ {D T : Type 0} (disk : DiskMeaning D) (peer : PeerMeaning T D) where
  -- it is a moment until now
  abbrev pub HasMoment : T → D → Moment → Type 0
  HasMoment = IsMoment disk.left_since peer.given peer.taken peer.since peer.past

  -- Calls of the disk and of the peer: each moment is one of before, or this holds of it.
  pub record RunsTo (first : T) (old : D) (last : T) (new : D) (P : Moment → Type 0) : Type 0 where
    pub later : disk.moment old ≤ disk.moment new
    pub clock : peer.since last ≤ disk.moment new
    pub each : (at : Moment) → HasMoment last new at → HasMoment first old at ⊎ P at

  -- calls of the disk alone
  pub disk_runs : (t : T) (old new : D) (Q : List ℕ → Type 0) → peer.since t ≤ disk.moment old
      → LeavesOnly disk.moment disk.left_since old new Q
      → RunsTo t old t new (λ at. IsAt (peer.given t) (peer.taken t) at × Q at.image)
  disk_runs t old new Q clock only = record {
    later = only.later;
    clock = omega (arith, clock, only.later);
    each = λ at is. ⊎_elim (λ before. inl (inl before))
        (λ now. ⊎_elim (λ then. inl (inr (now.0, then))) (λ q. inr (now.0, q)) (only.before (peer.since t) at.image clock now.1)) is;
  }

  -- no call
  pub stays : (t : T) (d : D) (P : Moment → Type 0) → peer.since t ≤ disk.moment d → RunsTo t d t d P
  stays t d P clock = record { later = omega arith; clock = clock; each = λ at is. inl is }

  -- one run after another
  pub runs_on : (first mid last : T) (old between new : D) (P : Moment → Type 0) → RunsTo first old mid between P
      → RunsTo mid between last new P → RunsTo first old last new P
  runs_on first mid last old between new P one two = record {
    later = omega (arith, one.later, two.later);
    clock = two.clock;
    each = λ at is. ⊎_elim (one.each at) (λ p. inr p) (two.each at is);
  }

  -- the same run, of which less is told
  pub runs_wider : (first last : T) (old new : D) (P Q : Moment → Type 0) → RunsTo first old last new P
      → ((at : Moment) → P at → Q at) → RunsTo first old last new Q
  runs_wider first last old new P Q run wider = record {
    later = run.later;
    clock = run.clock;
    each = λ at is. ⊎_elim (λ before. inl before) (λ p. inr (wider at p)) (run.each at is);
  }

  -- one call of the peer
  pub call_runs : (old new : T) (rests : D) (P : Moment → Type 0) → peer.since new ≤ disk.moment rests
      → ((at : Moment) → HasMoment new rests at → HasMoment old rests at ⊎ P at) → RunsTo old rests new rests P
  call_runs old new rests P clock each = record { later = omega arith; clock = clock; each = each }
