-- Whether the sessions of a shift start after the grants of a journal, which is so in one way.
use Rattle.std.proofs.Common.{Some, inl, inr, ◌<◌, Result, Ok, Err, ◌≡◌, ℕ, ◌==◌, List, [], ◌∷◌, ◌++◌, length, take}
use Rattle.std.proofs.Common.{All, refl, sym, ap, ◌∙◌, subst, arith, append_assoc, length-append, take-take}
use Rattle.std.specs.Prelude.{codes, ◌&&◌}
use Rattle.std.proofs.lemmas.List.{map-append, take_at}
use Rattle.std.proofs.lemmas.List.Elements.{All-nil, All-cons, All-head, All-tail, filter-append}
use Rattle.std.specs.Prelude.{⊤}
use Rattle.std.proofs.lemmas.Bool.{cases_lt}
use Rattle.cell_base.specs.declared.requests.Request.{Request}
use Rattle.cell_base.specs.declared.shifts.Grant.{Grant}
use Rattle.cell_base.specs.declared.shifts.Shift.{Shift}
use Rattle.cell_base.specs.Histories.{requests_of}
use Rattle.cell_base.specs.Rounds.{IsSession}
use Rattle.cell_base.specs.Scripts.{granted_to, script_of}
use Rattle.cell_base.specs.Starts.{AreFirstSteps, IsOtherShift}
use Rattle.cell_texts.specs.Parting.{Longer, longer, same_place}
use Rattle.cell_walks.specs.Observed.{Known}
use Rattle.cell_walks.specs.Walks.{Test}
use Rattle.cell_walks.specs.declared.early_end.Subject.TheVariants.{Journal}
use Rattle.journal_texts.specs.FaultNumbers.{other_shift_fault_code}
use Rattle.cell_texts.specs.Texts.{refusal_text}

all_front : (P : Grant → Type 0) (front rest : List Grant) → All P (front ++ rest) → All P front
all_front P [] rest all = All-nil P
all_front P (grant ∷ front) rest all =
    All-cons P grant front (All-head P grant (front ++ rest) all) (all_front P front rest (All-tail P grant (front ++ rest) all))

granted_after : (number session : ℕ) (front rest : List Grant)
    → granted_to number session (front ++ rest) ≡ granted_to number session front ++ granted_to number session rest
granted_after number session front rest =
    let Own = λ (grant : Grant). (grant.shift == number) && (grant.session == session) in
    ap requests_of (filter-append Own front rest) ∙ map-append (λ (grant : Grant). grant.request) _ _

-- a prefix of a prefix is a prefix
first_steps : (front rest script : List Request) → front ++ rest ≡ take (length (front ++ rest)) script → front ≡ take (length front) script
first_steps front rest script is =
    sym (take_at front rest (length front) refl) ∙ ap (take (length front)) is
    ∙ take-take (length front) (length (front ++ rest)) script (omega (arith, length-append front rest))

started_front : (shift : Shift) (front rest : List Grant) → AreFirstSteps shift (front ++ rest) → AreFirstSteps shift front
started_front shift front rest started = record {
  each = λ session is.
      let parted = granted_after shift.number session front rest in
      first_steps (granted_to shift.number session front) (granted_to shift.number session rest) (script_of shift session)
      (subst (λ (granted : List Request). granted ≡ take (length granted) (script_of shift session)) parted (started.each session is));
  known = all_front (λ (grant : Grant). grant.shift ≡ shift.number → IsSession shift grant.session) front rest started.known;
}

-- after grants of which one is another shift's they don't start
pub other_not_started : (shift : Shift) (opening : List Grant) (session : ℕ) → IsOtherShift shift opening session
    → AreFirstSteps shift opening → ⊥
other_not_started shift opening session other started =
    other.strays (started_front shift (other.before ++ other.stray ∷ []) other.later
    (subst (AreFirstSteps shift) (other.parted ∙ sym (append_assoc other.before (other.stray ∷ []) other.later)) started))

-- a grant of a session of another shift comes first in one way
not_before : (shift : Shift) (opening : List Grant) (one two : ℕ) (a : IsOtherShift shift opening one) (b : IsOtherShift shift opening two)
    → length a.before < length b.before → ⊥
unfolding Longer
not_before shift opening one two a b less =
    let so = longer a.before b.before a.stray b.stray a.later b.later (sym a.parted ∙ b.parted) less in
    a.strays (started_front shift (a.before ++ a.stray ∷ []) so.0
    (subst (AreFirstSteps shift) (so.1 ∙ sym (append_assoc a.before (a.stray ∷ []) so.0)) b.started))

one_session : (shift : Shift) (opening : List Grant) (one two : ℕ) → IsOtherShift shift opening one → IsOtherShift shift opening two
    → one ≡ two
one_session shift opening one two a b = elim (cases_lt (length a.before) (length b.before)) [
  | inl less ↦ absurd (not_before shift opening one two a b less)
  | inr most ↦ elim (cases_lt (length b.before) (length a.before)) [
    | inl less ↦ absurd (not_before shift opening two one b a less)
    | inr least ↦
        let stray : a.stray ≡ b.stray =
        same_place a.before b.before a.stray b.stray a.later b.later (sym a.parted ∙ b.parted) (omega (arith, most, least)) in
        a.session_is ∙ ap (λ (grant : Grant). grant.session) stray ∙ sym b.session_is
  ]
]

-- the line of such a grant
abbrev pub other_shift : ℕ → List ℕ
other_shift session = refusal_text (codes "journal") (other_shift_fault_code session)

-- the sessions start after the grants, or one of these is another shift's
abbrev pub sessions_start : Shift → List Grant → List ℕ → Result ⊤ ℕ → Type 0
sessions_start shift opening bytes (Ok at) = AreFirstSteps shift opening
sessions_start shift opening bytes (Err session) = IsOtherShift shift opening session

pub start_once : (shift : Shift) (opening : List Grant) (bytes : List ℕ) (first second : Result ⊤ ℕ)
    → sessions_start shift opening bytes first
    → sessions_start shift opening bytes second → first ≡ second
start_once shift opening bytes (Ok a) (Ok b) one other = refl
start_once shift opening bytes (Ok a) (Err b) one other = absurd (other_not_started shift opening b other one)
start_once shift opening bytes (Err a) (Ok b) one other = absurd (other_not_started shift opening a one other)
start_once shift opening bytes (Err a) (Err b) one other = ap Err (one_session shift opening a b one other)

-- the start of the sessions, status 6
abbrev pub start_test : Shift → List Grant → Test
start_test shift opening = record {
  Value = ⊤;
  Fault = ℕ;
  source = Known;
  subject = Journal;
  reads = sessions_start shift opening;
  one_way = start_once shift opening;
  line = λ session. Some (other_shift session);
}
