-- What a peer in memory shows.
use Rattle.std.specs.Prelude.{◌≡◌, ◌⊎◌, ℕ, ◌+◌, List, [], ◌∷◌, ◌++◌, take}
use Rattle.outside_io.specs.MemSink.{bytes_taken, put_faults, WasPut}
use Rattle.outside_io.specs.MemSource.{source_given, source_faults}
use Rattle.peers.specs.Moments.{Moment}
use Rattle.peers.specs.declared.mem_peer.Mark.{Mark}
use Rattle.peers.specs.declared.mem_peer.MemPeer.{MemPeer}

-- the bytes given
abbrev pub peer_given : {D : Type 0} → MemPeer D → List ℕ
peer_given peer = source_given peer.source

-- the bytes taken
abbrev pub peer_bytes : {D : Type 0} → MemPeer D → List ℕ
peer_bytes peer = bytes_taken peer.sink

-- those of them that were handed on
abbrev pub bytes_handed : {D : Type 0} → MemPeer D → List ℕ
bytes_handed peer = take peer.handed (peer_bytes peer)

-- the moment of the last put or read
abbrev pub peer_since : {D : Type 0} → (D → ℕ) → MemPeer D → ℕ
peer_since moment peer = moment peer.last.value

-- how many puts were faults
abbrev pub peer_faults : {D : Type 0} → MemPeer D → ℕ
peer_faults peer = put_faults peer.sink + peer.starved

-- how many reads were faults
abbrev pub peer_read_faults : {D : Type 0} → MemPeer D → ℕ
peer_read_faults peer = source_faults peer.source + peer.unread

-- a moment between two calls: these bytes were given and put by the first of them, and a crash from then until the second might have left
-- this
abbrev pub IsBetween : {D : Type 0} → (D → ℕ) → (D → ℕ → List ℕ → Type 0) → Mark D → Moment → Type 0
IsBetween moment left_since mark at =
    (at.given ≡ source_given mark.source.value) × (at.put ≡ bytes_taken mark.sink.value)
    × left_since mark.to.value (moment mark.from.value) at.image

-- a moment between two of the calls
abbrev pub IsMarked : {D : Type 0} → (D → ℕ) → (D → ℕ → List ℕ → Type 0) → List (Mark D) → Moment → Type 0
IsMarked moment left_since [] at = ⊥
IsMarked moment left_since (mark ∷ marks) at = IsBetween moment left_since mark at ⊎ IsMarked moment left_since marks at

-- What was until now is marked, and nothing else was done.
pub record IsMarkedNow {D : Type 0} (old : MemPeer D) (disk : D) (new : MemPeer D) : Type 0 where
  pub mark : Mark D
  pub source_is : mark.source.value ≡ old.source
  pub sink_is : mark.sink.value ≡ old.sink
  pub from_is : mark.from.value ≡ old.last.value
  pub to_is : mark.to.value ≡ disk
  pub marks : new.marks.items ≡ old.marks.items ++ mark ∷ []
  pub last : new.last.value ≡ disk
  pub source : new.source ≡ old.source
  pub sink : new.sink ≡ old.sink
  pub handed : new.handed ≡ old.handed
  pub starved : new.starved ≡ old.starved
  pub unread : new.unread ≡ old.unread

-- one put of a piece was made, or there was no memory for its mark and nothing was done
abbrev pub IsOnePut : {D : Type 0} → MemPeer D → List ℕ → MemPeer D → Type 0
IsOnePut old piece new = WasPut old.sink piece new.sink ⊎ (new.sink ≡ old.sink)
