-- The bytes are read as the frame that was written, and its grant stands at its index.
use Rattle.std.specs.Option.{option_map}
use Rattle.std.proofs.Common.{ap}
use Rattle.standby_link.specs.Frames.{framed}
use Rattle.standby_link.proofs.feeder.Feeder.frame.Goals as goal

pub returns-clause-is_taken : goal.returns-clause-is_taken
returns-clause-is_taken c = rw (← c.self.view_is) (
  framed c.args.at c.get-grant.result.now,
  c.to_bytes.ensures.read_back,
  ap (option_map (framed c.args.at)) c.get-grant.ensures,
)
