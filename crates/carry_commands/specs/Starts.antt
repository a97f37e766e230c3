-- Whether the requests of a start are granted in turn, and whether the grants of a journal are a prefix of them.
use Rattle.std.proofs.Common.{inl, inr, ◌<◌, ◌≡◌, ℕ, ◌+◌, List, [], ◌∷◌, ◌++◌, length, map, take, Option, Some, None, Result}
use Rattle.std.proofs.Common.{Ok, Err, refl, sym, ap, ◌∙◌, subst, arith, append_assoc, length-append, take-take}
use Rattle.std.specs.Prelude.{⊤}
use Rattle.std.proofs.lemmas.Bool.{cases_lt}
use Rattle.std.proofs.lemmas.List.{take_at}
use Rattle.cell_base.specs.declared.cells.Cell.{Cell}
use Rattle.cell_base.specs.declared.requests.Part.{Part}
use Rattle.cell_base.specs.declared.requests.Reply.{Reply}
use Rattle.cell_base.specs.declared.requests.Reply.TheVariants.{Granted, Refused}
use Rattle.cell_base.specs.declared.requests.Request.{Request}
use Rattle.cell_base.specs.declared.shifts.Grant.{Grant}
use Rattle.cell_base.specs.Outcomes.{reply_to, state_after}
use Rattle.record_text.specs.declared.record.RecordFault.{RecordFault}
use Rattle.record_text.specs.StartFiles.{start_reads}
use Rattle.record_text.proofs.StartExact.{start_once}
use Rattle.cell_walks.specs.Observed.{File, Known}
use Rattle.cell_walks.specs.Walks.{Test}
use Rattle.cell_walks.specs.declared.early_end.Subject.TheVariants.{Command, Input, Journal}
use Rattle.cell_texts.specs.OneWay.{once, reads_by}
use Rattle.cell_texts.specs.Parting.{Longer, longer}
use Rattle.cell_texts.specs.RecordReads.{record_line}
use Rattle.journal_texts.specs.AskedSteps.{step_grant}
use Rattle.carry_commands.specs.Refusals.{other_start, start_refused}
use Rattle.carry_commands.specs.declared.refusals.StartFault.{StartFault}

-- a start file for this cell, status 5
abbrev pub start_file : Cell → List ℕ → Test
start_file cell name = record {
  Value = List Request;
  Fault = RecordFault;
  source = File name;
  subject = Input;
  reads = start_reads cell;
  one_way = start_once cell;
  line = record_line;
}

-- ---- the requests of the start

-- by the reply to a request on this line: what comes of the later ones, or its refusal
abbrev pub unless_refused : ℕ → Reply → Result ⊤ StartFault → Result ⊤ StartFault
unless_refused line Granted later = later
unless_refused line (Refused why) later = Err (record { line = line; why = why })

-- whether requests from this line on are granted in turn, or the first that is refused, and why
abbrev pub granted_from : Cell → List Part → ℕ → List Request → Result ⊤ StartFault
granted_from cell parts line [] = Ok tt
granted_from cell parts line (request ∷ requests) =
    unless_refused line (reply_to cell parts request) (granted_from cell (state_after cell parts request) (line + 1) requests)

-- the same of a start, from the empty state
abbrev pub granted_start : Cell → List Request → Result ⊤ StartFault
granted_start cell requests = granted_from cell [] 1 requests

-- each request of the start is granted in its turn, status 10
abbrev pub grants_start : Cell → List Request → Test
grants_start cell requests = record {
  Value = ⊤;
  Fault = StartFault;
  source = Known;
  subject = Command;
  reads = reads_by (λ bytes. granted_start cell requests);
  one_way = once (λ bytes. granted_start cell requests);
  line = λ fault. Some (start_refused cell fault);
}

-- ---- the grants of the journal

-- the requests as grants of session 0 of shift 0
abbrev pub start_grants : List Request → List Grant
start_grants requests = map step_grant requests

-- these grants are a prefix of the start
abbrev pub ArePrefix : List Request → List Grant → Type 0
ArePrefix requests opening = opening ≡ take (length opening) (start_grants requests)

-- The grants before this index are a prefix of the start, and the one there is another, or one too many.
pub record IsOtherStart (requests : List Request) (opening : List Grant) (at : ℕ) : Type 0 where
  pub before : List Grant
  pub stray : Grant
  pub later : List Grant
  pub parted : opening ≡ before ++ stray ∷ later
  pub index : at ≡ length before
  pub first : ArePrefix requests before
  pub strays : ArePrefix requests (before ++ stray ∷ []) → ⊥

-- these grants were compared with the start: they are a prefix of it, and so many; or the first other one stands at this index
abbrev pub HasCompared : List Request → List Grant → ℕ → Option ℕ → Type 0
HasCompared requests opening held None = ArePrefix requests opening × (held ≡ length opening)
HasCompared requests opening held (Some at) = IsOtherStart requests opening at

-- a prefix of a prefix is one too
pub first_front : (requests : List Request) (front rest : List Grant) → ArePrefix requests (front ++ rest) → ArePrefix requests front
first_front requests front rest is =
    sym (take_at front rest (length front) refl) ∙ ap (take (length front)) is
    ∙ take-take (length front) (length (front ++ rest)) (start_grants requests) (omega (arith, length-append front rest))

pub not_first : (requests : List Request) (opening : List Grant) (at : ℕ) → IsOtherStart requests opening at
    → ArePrefix requests opening → ⊥
not_first requests opening at other first =
    other.strays (first_front requests (other.before ++ other.stray ∷ []) other.later
    (subst (ArePrefix requests) (other.parted ∙ sym (append_assoc other.before (other.stray ∷ []) other.later)) first))

-- another grant comes first in one way
not_before : (requests : List Request) (opening : List Grant) (one two : ℕ) (a : IsOtherStart requests opening one)
    (b : IsOtherStart requests opening two) → length a.before < length b.before → ⊥
unfolding Longer
not_before requests opening one two a b less =
    let so = longer a.before b.before a.stray b.stray a.later b.later (sym a.parted ∙ b.parted) less in
    a.strays (first_front requests (a.before ++ a.stray ∷ []) so.0
    (subst (ArePrefix requests) (so.1 ∙ sym (append_assoc a.before (a.stray ∷ []) so.0)) b.first))

one_index : (requests : List Request) (opening : List Grant) (one two : ℕ) → IsOtherStart requests opening one
    → IsOtherStart requests opening two → one ≡ two
one_index requests opening one two a b = elim (cases_lt (length a.before) (length b.before)) [
  | inl less ↦ absurd (not_before requests opening one two a b less)
  | inr most ↦ elim (cases_lt (length b.before) (length a.before)) [
    | inl less ↦ absurd (not_before requests opening two one b a less)
    | inr least ↦ omega (arith, a.index, b.index, most, least)
  ]
]

-- the grants are a prefix of the start, or the one at this index is another
abbrev pub begun_reads : List Request → List Grant → List ℕ → Result ⊤ ℕ → Type 0
begun_reads requests opening bytes (Ok first) = ArePrefix requests opening
begun_reads requests opening bytes (Err at) = IsOtherStart requests opening at

pub begun_once : (requests : List Request) (opening : List Grant) (bytes : List ℕ) (first second : Result ⊤ ℕ)
    → begun_reads requests opening bytes first → begun_reads requests opening bytes second → first ≡ second
begun_once requests opening bytes (Ok a) (Ok b) one other = refl
begun_once requests opening bytes (Ok a) (Err b) one other = absurd (not_first requests opening b other one)
begun_once requests opening bytes (Err a) (Ok b) one other = absurd (not_first requests opening a one other)
begun_once requests opening bytes (Err a) (Err b) one other = ap Err (one_index requests opening a b one other)

-- the journal holds a prefix of the start, status 6
abbrev pub begun : List Request → List Grant → Test
begun requests opening = record {
  Value = ⊤;
  Fault = ℕ;
  source = Known;
  subject = Journal;
  reads = begun_reads requests opening;
  one_way = begun_once requests opening;
  line = λ at. Some (other_start at);
}

-- ---- a start that is taken whole

-- No test of `begin` refuses these bytes as a start, where the journal is blank: they are read as these requests, and each is granted in
-- its turn. A blank journal has no grant that could be another start's.
pub record IsTakenOnBlank (cell : Cell) (bytes : List ℕ) (requests : List Request) : Type 0 where
  pub read : start_reads cell bytes (Ok requests)
  pub granted : granted_start cell requests ≡ Ok tt
