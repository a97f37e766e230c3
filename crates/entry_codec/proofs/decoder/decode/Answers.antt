-- No record is missed: the record of a grant would have been read as that grant.
use Rattle.std.proofs.Common.{◌∙◌, ap, rules}
use Rattle.entry_codec.specs.Decoding.{grant_of}
use Rattle.entry_codec.proofs.ReadBack.{grant_of-record_of}
use Rattle.entry_codec.proofs.decoder.decode.Goals as goal

pub returns-else-is_record-clause-grant : goal.returns-else-is_record-clause-grant
unfolding grant_of
returns-else-is_record-clause-grant c = search rules

pub returns-else-is_record-clause-no_record : goal.returns-else-is_record-clause-no_record
returns-else-is_record-clause-no_record c grant in_range has is =
    let none = returns-else-is_record-clause-grant c in
    let some = ap grant_of is ∙ grant_of-record_of grant in_range has in
    absurd (cc (none, some))
