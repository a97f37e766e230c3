-- The record of a grant, as sixteen bytes.
use Rattle.std.specs.Prelude.{ℕ, ◌<◌, ◌^◌, Bool, true, if◌then◌else◌, nat_lt, IsTrue, List, ◌∷◌, ◌++◌}
use Rattle.std.specs.Int.{to_be_bytes, w16, w32}
use Rattle.cell_base.specs.declared.limits.TheConstants.{MAX_BRANCHES}
use Rattle.cell_base.specs.declared.requests.Request.{Request}
use Rattle.cell_base.specs.declared.requests.Request.TheVariants.{Load, Process, Move, Unload, Place}
use Rattle.cell_base.specs.declared.shifts.Grant.{Grant}

-- kind, flag, session, shift, job, and four bytes more
abbrev pub fields : ℕ → ℕ → ℕ → ℕ → ℕ → List ℕ → List ℕ
fields kind flag session shift job argument =
    kind ∷ flag ∷ to_be_bytes w16 session ++ to_be_bytes w32 shift ++ to_be_bytes w32 job ++ argument

-- 1 for a part that is done
abbrev pub flag_of : Bool → ℕ
flag_of done = if done then 1 else 0

-- the record of a request that was granted to a session of a shift
abbrev pub record_by : ℕ → ℕ → Request → List ℕ
record_by session shift (Load job kind) = fields 1 0 session shift job.0 (to_be_bytes w32 kind.0)
record_by session shift (Process machine) = fields 2 0 session shift 0 (to_be_bytes w32 machine.0)
record_by session shift (Move job branch) = fields 3 0 session shift job.0 (to_be_bytes w32 branch)
record_by session shift (Unload job) = fields 4 0 session shift job.0 (to_be_bytes w32 0)
record_by session shift (Place done kind job place) =
    fields 5 (flag_of done) session shift job.0 (to_be_bytes w16 kind.0 ++ to_be_bytes w16 place)

-- the one record of a grant
abbrev pub record_of : Grant → List ℕ
record_of grant = record_by grant.session grant.shift grant.request

-- all but a move by a branch that no place has
abbrev pub request_has_record : Request → Bool
request_has_record (Move job branch) = nat_lt branch MAX_BRANCHES
request_has_record request = true

-- the grant has a record
abbrev pub HasRecord : Grant → Type 0
HasRecord grant = IsTrue (request_has_record grant.request)

-- the numbers of a request are in the ranges of their types
abbrev pub RequestIsInRange : Request → Type 0
RequestIsInRange (Load job kind) = (job.0 < 2 ^ 32) × (kind.0 < 2 ^ 16)
RequestIsInRange (Process machine) = machine.0 < 2 ^ 16
RequestIsInRange (Move job branch) = (job.0 < 2 ^ 32) × (branch < 2 ^ 16)
RequestIsInRange (Unload job) = job.0 < 2 ^ 32
RequestIsInRange (Place done kind job place) = (job.0 < 2 ^ 32) × (kind.0 < 2 ^ 16) × (place < 2 ^ 16)

-- the numbers of a grant are in the ranges of their types, as those of every grant at run time are
pub record IsInRange (grant : Grant) : Type 0 where
  pub shift : grant.shift < 2 ^ 32
  pub session : grant.session < 2 ^ 16
  pub request : RequestIsInRange grant.request
