-- The meanings of a peer as one record, which a clause has as `T.Peer`.
use Rattle.outside_io.specs.Puts.{SinkTold, sink_told}
use Rattle.outside_io.specs.Source.{SourceTold, source_told}
use Rattle.peers.specs.declared.peer.Peer.{Ghosts}

abbrev pub PeerMeaning : Type 0 → Type 0 → Type 1
PeerMeaning T D = Ghosts T D

-- what a peer tells of a run of puts, as a sink does
abbrev pub peer_took : {D T : Type 0} → PeerMeaning T D → T → T → SinkTold
peer_took peer old new = sink_told peer.taken peer.was_put peer.faults old new

-- what it tells of a run of reads, as a source does
abbrev pub peer_gave : {D T : Type 0} → PeerMeaning T D → T → T → SourceTold
peer_gave peer old new = source_told peer.given peer.has_ended peer.read_faults old new
