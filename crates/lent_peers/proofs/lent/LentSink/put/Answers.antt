-- What the peer says of its put.
use Rattle.std.proofs.Common.{refl, take}
use Rattle.outside_io.specs.Sink.{AppendsPrefix}
use Rattle.lent_peers.proofs.Taking.{took_prefix}
use Rattle.lent_peers.proofs.lent.LentSink.put.Goals as goal

pub returns-clause-one_put : goal.returns-clause-one_put
returns-clause-one_put g c =
    let peer = g.T.Peer in
    let part : AppendsPrefix (peer.taken c.args.self.now.peer.now) (peer.taken c.put.new.self) c.args.piece.now =
    took_prefix c.put.result _ _ c.args.piece.now c.put.ensures.whole c.put.ensures.part in
    record {
      put = c.put.ensures.one_put;
      lent_on = record {
        same_peer = refl;
        same_disk = refl;
        went_on = record {
          grew = (take part.0 c.args.piece.now, part.1);
          unread = c.put.ensures.unread;
          ended = c.put.ensures.ended;
          no_read = c.put.ensures.no_read;
          clock = c.put.ensures.clock;
          moments = c.put.ensures.moments;
          keeps = c.put.ensures.keeps;
        };
      };
    }
