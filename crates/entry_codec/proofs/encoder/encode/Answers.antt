-- The record is read as the grant, since its numbers are in range.
use Rattle.std.proofs.Common.{◌∙◌, ap}
use Rattle.entry_codec.specs.Decoding.{grant_of}
use Rattle.entry_codec.proofs.ReadBack.{grant_of-record_of}
use Rattle.entry_codec.proofs.encoder.encode.Goals as goal

pub returns-clause-read_back : goal.returns-clause-read_back
returns-clause-read_back c =
    ap grant_of c.record_for.ensures.record ∙ grant_of-record_of c.args.grant.now c.record_for.ensures.in_range c.requires
