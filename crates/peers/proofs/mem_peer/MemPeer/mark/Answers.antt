-- The mark has what was until now.
use Rattle.std.proofs.Common.{ap, refl, ◌∙◌}
use Rattle.peers.proofs.mem_peer.MemPeer.mark.Goals as goal

pub returns : goal.returns
returns g c = record {
  mark = _;
  source_is = c.of-2.ensures;
  sink_is = c.of-3.ensures;
  from_is = ap (λ s. s.value) c.replace-from.ensures.value;
  to_is = c.of-4.ensures;
  marks = c.push_reserved.ensures.items;
  last = ap (λ s. s.value) c.replace-from.ensures.after ∙ c.of.ensures;
  source = refl;
  sink = refl;
  handed = refl;
  starved = refl;
  unread = refl;
}
