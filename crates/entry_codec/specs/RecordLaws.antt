-- Laws of records: they have sixteen bytes, and bytes that are read as a grant are its record.
use Rattle.std.specs.Prelude.{Option, Some, None, option_and_then, if◌then◌else◌}
use Rattle.std.specs.Cmp.Lexicographic.{same_text}
use Rattle.std.proofs.Common.{◌≡◌, ℕ, Bool, true, false, ◌&&◌, List, length, refl, sym, ◌∙◌, ap}
use Rattle.cell_base.specs.declared.requests.Request.{Request}
use Rattle.cell_base.specs.declared.requests.Request.TheVariants.{Load, Process, Move, Unload, Place}
use Rattle.cell_base.specs.declared.shifts.Grant.{Grant}
use Rattle.entry_codec.specs.Decoding.{grant_of, grant_with, where_record, is_record_of, request_in}
use Rattle.entry_codec.specs.Records.{record_of, record_by}

length-record_by : (session shift : ℕ) (request : Request) → length (record_by session shift request) ≡ 16
length-record_by session shift (Load job kind) = refl
length-record_by session shift (Process machine) = refl
length-record_by session shift (Move job branch) = refl
length-record_by session shift (Unload job) = refl
length-record_by session shift (Place done kind job place) = refl

pub length-record_of : (grant : Grant) → length (record_of grant) ≡ 16
length-record_of grant = length-record_by grant.session grant.shift grant.request

by_test : (test : Bool) (found grant : Grant) → (if test then Some found else None) ≡ Some grant → (test ≡ true) × (found ≡ grant)
by_test true found grant is = (refl, cc)
by_test false found grant is = absurd (cc)

second : (a b : Bool) → (a && b) ≡ true → b ≡ true
second true b is = is
second false b is = absurd (cc)

pub record_of-grant_of : (bytes : List ℕ) (grant : Grant) → grant_of bytes ≡ Some grant → record_of grant ≡ bytes
unfolding grant_of
record_of-grant_of bytes grant is = by_request (request_in bytes) is
  where
    by_request : (request : Option Request)
        → option_and_then (λ request. where_record bytes (grant_with bytes request)) request ≡ Some grant → record_of grant ≡ bytes
    by_request None is = absurd (cc)
    by_request (Some request) is =
        let found : Grant = grant_with bytes request in
        let taken = by_test (is_record_of found bytes) found grant is in
        ap record_of (sym taken.1) ∙ same_text (record_of found) bytes (sym (second _ _ taken.0))
