-- How many grants each session has, and the last of them, with one grant more.
use Rattle.std.specs.Prelude.{◌==◌, ◌&&◌, IfSome, get_or, slice_get, slice_index}
use Rattle.std.specs.List.{filter, last_or}
use Rattle.std.proofs.Common.{◌≡◌, ℕ, All, Option, None, Some, replicate, ◌+◌, ◌<◌, ◌≤◌, inl, inr, cond, min, Bool}
use Rattle.std.proofs.Common.{true, false, List, [], ◌∷◌, ◌++◌, length, set, refl, sym, ap, ◌∙◌, arith}
use Rattle.std.proofs.lemmas.Bool.{eq-eqb, ne_eqb, cases_eq}
use Rattle.std.proofs.lemmas.List.{get_or-replicate, get_or-set_other, get_or-set_same, length-replicate}
use Rattle.std.proofs.lemmas.Option.{slice_get-get_or}
use Rattle.std.proofs.Math.Seq.{lt-length-set}
use Rattle.std.proofs.lemmas.List.Elements.{All-head, All-tail}
use Rattle.cell_base.specs.declared.cells.Cell.{Cell}
use Rattle.cell_base.specs.declared.requests.Request.{Request}
use Rattle.cell_base.specs.Fits.{RequestFits}
use Rattle.cell_base.specs.declared.shifts.Grant.{Grant}
use Rattle.cell_base.specs.Histories.{requests_of}
use Rattle.cell_base.specs.Scripts.{granted_to}
use Rattle.serve_command.specs.Answers.{count_of, last_of}
use Rattle.serve_command.specs.Serving.{HasCounts}
use Rattle.serve_command.specs.Sessions.{SessionTable}

-- whether a grant is the session's
abbrev is_own : ℕ → Grant → Bool
is_own session grant = (grant.shift == 0) && (grant.session == session)

length_one : (own : Bool) (grant : Grant) (grants : List Grant)
    → length (requests_of (cond own (grant ∷ grants) grants)) ≡ cond own 1 0 + length (requests_of grants)
length_one true grant grants = omega arith
length_one false grant grants = omega arith

one_at_most : (own : Bool) → cond own 1 0 ≤ 1
one_at_most true = omega arith
one_at_most false = omega arith

count-cons : (session : ℕ) (grant : Grant) (grants : List Grant)
    → count_of session (grant ∷ grants) ≡ cond (is_own session grant) 1 0 + count_of session grants
count-cons session grant grants = length_one (is_own session grant) grant _

pub count-push : (session : ℕ) (grants : List Grant) (grant : Grant)
    → count_of session (grants ++ grant ∷ []) ≡ count_of session grants + cond (is_own session grant) 1 0
count-push session [] grant = omega (arith, count-cons session grant [])
count-push session (first ∷ grants) grant =
    omega (arith, count-cons session first (grants ++ grant ∷ []), count-cons session first grants, count-push session grants grant)

last_one : (own : Bool) (grant : Grant) (last : Option Request)
    → last_or last (requests_of (cond own (grant ∷ []) [])) ≡ cond own (Some grant.request) last
last_one true grant last = refl
last_one false grant last = refl

last_step : (own : Bool) (first : Grant) (rest more : List Grant) (last : Option Request) (found : Bool) (request : Request)
    → ((before : Option Request) → last_or before (requests_of more) ≡ cond found (Some request) (last_or before (requests_of rest)))
    → last_or last (requests_of (cond own (first ∷ more) more))
    ≡ cond found (Some request) (last_or last (requests_of (cond own (first ∷ rest) rest)))
last_step true first rest more last found request is = is (Some first.request)
last_step false first rest more last found request is = is last

-- the last grant of a session, with one grant more
last-push_after : (session : ℕ) (grants : List Grant) (grant : Grant) (last : Option Request)
    → last_or last (granted_to 0 session (grants ++ grant ∷ []))
    ≡ cond (is_own session grant) (Some grant.request) (last_or last (granted_to 0 session grants))
last-push_after session [] grant last = last_one (is_own session grant) grant last
last-push_after session (first ∷ grants) grant last =
    last_step (is_own session first) first (filter (is_own session) grants) (filter (is_own session) (grants ++ grant ∷ [])) last
    (is_own session grant) grant.request (last-push_after session grants grant)

last-push : (session : ℕ) (grants : List Grant) (grant : Grant)
    → last_of session (grants ++ grant ∷ []) ≡ cond (is_own session grant) (Some grant.request) (last_of session grants)
last-push session grants grant = last-push_after session grants grant None

-- the last request of a session fits where each grant does
last_fits_step : (cell : Cell) (own : Bool) (first : Grant) (rest : List Grant) (last : Option Request) → RequestFits cell first.request
    → IfSome last (RequestFits cell)
    → ((before : Option Request) → IfSome before (RequestFits cell) → IfSome (last_or before (requests_of rest)) (RequestFits cell))
    → IfSome (last_or last (requests_of (cond own (first ∷ rest) rest))) (RequestFits cell)
last_fits_step cell true first rest last fits is so = so (Some first.request) fits
last_fits_step cell false first rest last fits is so = so last is

last_fits_after : (cell : Cell) (session : ℕ) (grants : List Grant) → All (λ (grant : Grant). RequestFits cell grant.request) grants
    → (last : Option Request) → IfSome last (RequestFits cell) → IfSome (last_or last (granted_to 0 session grants)) (RequestFits cell)
last_fits_after cell session [] fit last is = is
last_fits_after cell session (first ∷ grants) fit last is =
    let Fits : Grant → Type 0 = λ (grant : Grant). RequestFits cell grant.request in
    last_fits_step cell (is_own session first) first (filter (is_own session) grants) last (All-head Fits first grants fit) is
    (last_fits_after cell session grants (All-tail Fits first grants fit))

pub last_fits : (cell : Cell) (session : ℕ) (grants : List Grant) → All (λ (grant : Grant). RequestFits cell grant.request) grants
    → IfSome (last_of session grants) (RequestFits cell)
last_fits cell session grants fit = last_fits_after cell session grants fit None tt

-- in a new table no session has a grant
pub none_counted : (n : ℕ) (table : SessionTable) → 65536 ≤ n → table.counts ≡ replicate n 0 → table.last ≡ replicate n None
    → HasCounts [] table
none_counted n table all counts last =
    let nothing : List (Option Request) = replicate n None in
    record {
      count = λ session within. ap (λ (ns : List ℕ). slice_index ns session) counts
          ∙ get_or-replicate n session 0 0 (omega (arith, within, all));
      last = λ session within. ap (λ (ls : List (Option Request)). slice_get ls session) last
          ∙ slice_get-get_or nothing session None (omega (arith, within, all, length-replicate {A = Option Request} n None))
          ∙ ap Some (get_or-replicate {A = Option Request} n session None None (omega (arith, within, all)));
    }

-- a session has no more than there are
count_few : (session : ℕ) (grants : List Grant) → count_of session grants ≤ length grants
count_few session [] = omega arith
count_few session (grant ∷ grants) =
    omega (arith, count-cons session grant grants, one_at_most (is_own session grant), count_few session grants)

module _ (grants : List Grant) (table : SessionTable) (grant : Grant) (has : HasCounts grants table) where
  -- where the grant is none of a session's
  count_stays : (session : ℕ) → session < 65536 → is_own session grant ≡ false
      → slice_index table.counts session ≡ count_of session (grants ++ grant ∷ [])
  count_stays session within none =
      omega (arith, has.count session within, count-push session grants grant, ap {B = ℕ} (λ (b : Bool). cond b 1 0) none)

  last_stays : (session : ℕ) → session < 65536 → is_own session grant ≡ false
      → slice_get table.last session ≡ Some (last_of session (grants ++ grant ∷ []))
  last_stays session within none =
      has.last session within
      ∙ ap Some (sym (last-push session grants grant ∙ ap (λ (b : Bool). cond b (Some grant.request) (last_of session grants)) none))

  -- a grant of another shift is none of a session's
  pub counts_other : (grant.shift == 0) ≡ false → HasCounts (grants ++ grant ∷ []) table
  counts_other other =
      let none : (session : ℕ) → is_own session grant ≡ false =
      λ session. ap (λ (b : Bool). b && (grant.session == session)) other in
      record {
        count = λ session within. count_stays session within (none session);
        last = λ session within. last_stays session within (none session);
      }

  -- one of shift 0 is its session's
  module _ (few : length grants < 4294967295) (long : length table.counts ≡ 65536) (long_last : length table.last ≡ 65536)
      (in_range : grant.session < 65536) (here : (grant.shift == 0) ≡ true) (new : SessionTable)
      (counts_are : new.counts ≡ set table.counts grant.session (min (slice_index table.counts grant.session + 1) 4294967295))
      (last_are : new.last ≡ set table.last grant.session (Some grant.request)) where
    own : (session : ℕ) → session ≡ grant.session → is_own session grant ≡ true
    own session same = λ i. here i && eq-eqb grant.session session (sym same) i

    none : (session : ℕ) → (session ≡ grant.session → ⊥) → is_own session grant ≡ false
    none session apart = λ i. here i && ne_eqb grant.session session (λ same. apart (sym same)) i

    count_so : (session : ℕ) → session < 65536 → slice_index new.counts session ≡ count_of session (grants ++ grant ∷ [])
    count_so session within = elim (cases_eq session grant.session) [
      | inl same ↦
          let there : slice_index new.counts session ≡ min (slice_index table.counts grant.session + 1) 4294967295 =
          (λ i. slice_index (counts_are i) (same i)) ∙ get_or-set_same table.counts grant.session _ 0 (omega (arith, long, in_range)) in
          omega (
            arith,
            there,
            has.count grant.session in_range,
            ap (λ (k : ℕ). count_of k grants) same,
            count_few grant.session grants,
            few,
            count-push session grants grant,
            ap {B = ℕ} (λ (b : Bool). cond b 1 0) (own session same),
          )
      | inr apart ↦
          ap (λ (ls : List ℕ). slice_index ls session) counts_are ∙ get_or-set_other table.counts grant.session session _ 0 apart
          ∙ count_stays session within (none session apart)
    ]

    abbrev stored : List (Option Request)
    stored = set table.last grant.session (Some grant.request)

    in_stored : (session : ℕ) → session < 65536 → slice_get stored session ≡ Some (get_or stored session None)
    in_stored session within = slice_get-get_or stored session None
        (lt-length-set table.last grant.session (Some grant.request) (omega (arith, within, long_last)))

    last_so : (session : ℕ) → session < 65536 → slice_get new.last session ≡ Some (last_of session (grants ++ grant ∷ []))
    last_so session within = ap (λ (ls : List (Option Request)). slice_get ls session) last_are ∙ elim (cases_eq session grant.session) [
      | inl same ↦
          in_stored session within
          ∙ ap Some ((λ i. get_or stored (same i) None)
          ∙ get_or-set_same table.last grant.session (Some grant.request) None (omega (arith, long_last, in_range))
          ∙ sym (last-push session grants grant ∙ ap (λ (b : Bool). cond b (Some grant.request) (last_of session grants)) (own session same)))
      | inr apart ↦
          in_stored session within
          ∙ ap Some (get_or-set_other table.last grant.session session (Some grant.request) None apart)
          ∙ sym (slice_get-get_or table.last session None (omega (arith, within, long_last)))
          ∙ last_stays session within (none session apart)
    ]

    pub counts_one : HasCounts (grants ++ grant ∷ []) new
    counts_one = record { count = count_so; last = last_so }
