-- The grant of which bytes are the record.
use Rattle.std.specs.Prelude.{ℕ, ◌+◌, ◌==◌, Bool, ◌&&◌, if◌then◌else◌, nat_eq, Option}
use Rattle.std.specs.Prelude.{Some, None, option_and_then, List, [], ◌∷◌, slice_index}
use Rattle.std.specs.Int.{from_be_bytes, w16, w32}
use lib.Pointwise.{pointwise}
use Rattle.cell_base.specs.declared.requests.JobId.{JobId}
use Rattle.cell_base.specs.declared.requests.Request.{Request}
use Rattle.cell_base.specs.declared.requests.Request.TheVariants.{Load, Process, Move, Unload, Place}
use Rattle.cell_base.specs.declared.shifts.Grant.{Grant}
use Rattle.entry_codec.specs.Records.{record_of, request_has_record}

-- the number of two bytes at an offset
abbrev pub number_2 : List ℕ → ℕ → ℕ
number_2 bytes at = from_be_bytes w16 (slice_index bytes at ∷ slice_index bytes (at + 1) ∷ [])

-- the number of four bytes at an offset
abbrev pub number_4 : List ℕ → ℕ → ℕ
number_4 bytes at = from_be_bytes w32
    (slice_index bytes at ∷ slice_index bytes (at + 1) ∷ slice_index bytes (at + 2) ∷ slice_index bytes (at + 3) ∷ [])

-- the request whose numbers stand in the bytes
abbrev pub request_in : List ℕ → Option Request
request_in bytes =
    let kind : ℕ = slice_index bytes 0 in
    let job : JobId = record { 0 = number_4 bytes 8 } in
    let low : ℕ = number_2 bytes 14 in
    if kind == 1 then Some (Load job (record { 0 = low }))
    else if kind == 2 then Some (Process (record { 0 = low }))
    else if kind == 3 then Some (Move job low)
    else if kind == 4 then Some (Unload job)
    else if kind == 5 then Some (Place (slice_index bytes 1 == 1) (record { 0 = number_2 bytes 12 }) job low)
    else None

-- a request with the session and the shift that stand in the bytes
abbrev pub grant_with : List ℕ → Request → Grant
grant_with bytes request = record { shift = number_4 bytes 4; session = number_2 bytes 2; request = request }

-- the bytes are the record of the grant
abbrev pub is_record_of : Grant → List ℕ → Bool
is_record_of grant bytes = request_has_record grant.request && pointwise nat_eq (record_of grant) bytes

-- the grant, where the bytes are its record
abbrev pub where_record : List ℕ → Grant → Option Grant
where_record bytes grant = if is_record_of grant bytes then Some grant else None

-- the grant whose numbers stand in the bytes, where they are its record
unfoldable pub grant_of : List ℕ → Option Grant
grant_of bytes = option_and_then (λ request. where_record bytes (grant_with bytes request)) (request_in bytes)
