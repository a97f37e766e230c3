-- The record of a grant is read as that grant.
use Rattle.std.specs.Prelude.{Some, None, if◌then◌else◌}
use Rattle.std.proofs.Common.{◌≡◌, ℕ, ◌<◌, ◌^◌, Bool, true, ◌++◌, sym, ap, subst}
use Rattle.std.specs.Int.{to_be_bytes, w16, w32}
use Rattle.std.proofs.lemmas.Cmp.{nat_list_eq_equiv}
use Rattle.std.proofs.lemmas.Bool.{and_from}
use Rattle.cell_base.specs.declared.requests.Request.{Request}
use Rattle.cell_base.specs.declared.requests.Request.TheVariants.{Load, Process, Move, Unload, Place}
use Rattle.cell_base.specs.declared.shifts.Grant.{Grant}
use Rattle.entry_codec.specs.Decoding.{grant_of, where_record, is_record_of}
use Rattle.entry_codec.specs.Records.{flag_of, record_of, HasRecord, RequestIsInRange, IsInRange}
use Rattle.entry_codec.proofs.Fields.{session_in, shift_in, job_in, number_in, high_in, low_in, done-flag_of}

-- a grant whose numbers are those in the record is read from it
read : (grant found : Grant) → HasRecord grant → found ≡ grant → where_record (record_of grant) found ≡ Some grant
read grant found has is =
    let test : is_record_of grant (record_of grant) ≡ true = and_from _ _ has (nat_list_eq_equiv.refl (record_of grant)) in
    let same : where_record (record_of grant) grant ≡ Some grant = ap (λ (b : Bool). if b then Some grant else None) test in
    subst (λ (other : Grant). where_record (record_of grant) other ≡ Some grant) (sym is) same

abbrev grant : ℕ → ℕ → Request → Grant
grant shift session request = record { shift = shift; session = session; request = request }

pub grant_of-record_of : (grant : Grant) → IsInRange grant → HasRecord grant → grant_of (record_of grant) ≡ Some grant
unfolding grant_of
grant_of-record_of granted range has = by_request granted.shift granted.session granted.request range.shift range.session range.request has
  where
    by_request : (shift session : ℕ) (request : Request) → shift < 2 ^ 32 → session < 2 ^ 16 → RequestIsInRange request
        → HasRecord (grant shift session request)
        → grant_of (record_of (grant shift session request)) ≡ Some (grant shift session request)
    by_request shift session (Load job kind) h s range has =
        let argument = to_be_bytes w32 kind.0 in
        read (grant shift session (Load job kind)) _ has (λ i. record {
          shift = shift_in 1 0 session shift job.0 argument h i;
          session = session_in 1 0 session shift job.0 argument s i;
          request = Load (record { 0 = job_in 1 0 session shift job.0 argument range.0 i })
              (record { 0 = number_in 1 0 session shift job.0 kind.0 range.1 i });
        })
    by_request shift session (Process machine) h s range has =
        let argument = to_be_bytes w32 machine.0 in
        read (grant shift session (Process machine)) _ has (λ i. record {
          shift = shift_in 2 0 session shift 0 argument h i;
          session = session_in 2 0 session shift 0 argument s i;
          request = Process (record { 0 = number_in 2 0 session shift 0 machine.0 range i });
        })
    by_request shift session (Move job branch) h s range has =
        let argument = to_be_bytes w32 branch in
        read (grant shift session (Move job branch)) _ has (λ i. record {
          shift = shift_in 3 0 session shift job.0 argument h i;
          session = session_in 3 0 session shift job.0 argument s i;
          request = Move (record { 0 = job_in 3 0 session shift job.0 argument range.0 i })
              (number_in 3 0 session shift job.0 branch range.1 i);
        })
    by_request shift session (Unload job) h s range has =
        let argument = to_be_bytes w32 0 in
        read (grant shift session (Unload job)) _ has (λ i. record {
          shift = shift_in 4 0 session shift job.0 argument h i;
          session = session_in 4 0 session shift job.0 argument s i;
          request = Unload (record { 0 = job_in 4 0 session shift job.0 argument range i });
        })
    by_request shift session (Place done kind job place) h s range has =
        let flag = flag_of done in
        let argument = to_be_bytes w16 kind.0 ++ to_be_bytes w16 place in
        read (grant shift session (Place done kind job place)) _ has (λ i. record {
          shift = shift_in 5 flag session shift job.0 argument h i;
          session = session_in 5 flag session shift job.0 argument s i;
          request = Place (done-flag_of done i)
              (record { 0 = high_in 5 flag session shift job.0 kind.0 place range.1 i })
              (record { 0 = job_in 5 flag session shift job.0 argument range.0 i })
              (low_in 5 flag session shift job.0 kind.0 place range.2 i);
        })
