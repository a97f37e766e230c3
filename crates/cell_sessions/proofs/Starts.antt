-- One opening grant more: its session stands a step further, or it is a stray.
use Rattle.std.proofs.Common.{◌≡◌, ℕ, ◌+◌, ◌<◌, ◌==◌, ◌&&◌, Bool, true, false, List, [], ◌∷◌, ◌++◌, length}
use Rattle.std.proofs.Common.{Option, None, Some, is_some, drop, take, slice_get, slice_set, get_or, replicate, refl, ap, ◌∙◌, sym, subst}
use Rattle.std.proofs.Common.{⊎_elim, arith, length-set, get_or-set_same, get_or-set_other, append-nil, append_assoc}
use Rattle.std.specs.List.{filter, refill}
use Rattle.std.proofs.lemmas.Bool.{and_from, and_left, and_right, cases_eq, cond-true, cond-false, eq-eqb, ne_eqb}
use Rattle.std.proofs.lemmas.List.{length_push, map-append, take_at}
use Rattle.std.proofs.lemmas.List.Elements.{All-nil, All-pop, All-push, filter-append}
use Rattle.std.proofs.lemmas.Option.{get_or_from_slice_get, slice_get-get_or, slice_get_within}
use Rattle.cell_base.specs.declared.requests.Request.{Request}
use Rattle.cell_base.specs.declared.shifts.Grant.{Grant}
use Rattle.cell_base.specs.declared.shifts.Shift.{Shift}
use Rattle.cell_base.specs.Histories.{requests_of}
use Rattle.cell_base.specs.Rounds.{IsSession}
use Rattle.cell_base.specs.Scripts.{Progress, HasFirstSteps, begin_at, granted_to, script_of, first_step}
use Rattle.cell_base.specs.Starts.{AreFirstSteps, IsOtherShift}
use Rattle.cell_sessions.specs.Starting.{IsLed, IsReached, StandAtStart}
use Rattle.solo_rounds.proofs.Counting.{script_at}
use Rattle.solo_rounds.proofs.Ends.{same_everywhere}

-- ---- first steps of a script

pub first_steps-more : (granted script : List Request) (request : Request) → granted ≡ take (length granted) script
    → slice_get script (length granted) ≡ Some request → granted ++ request ∷ [] ≡ take (length (granted ++ request ∷ [])) script
first_steps-more [] [] request begins is = cc
first_steps-more [] (s ∷ ss) request begins is = cc
first_steps-more (g ∷ gs) [] request begins is = cc
first_steps-more (g ∷ gs) (s ∷ ss) request begins is =
    let tail : gs ≡ take (length gs) ss = cc in
    let more = first_steps-more gs ss request tail is in
    cc

pub first_steps-next : (granted script : List Request) (request : Request)
    → granted ++ request ∷ [] ≡ take (length (granted ++ request ∷ [])) script → slice_get script (length granted) ≡ Some request
first_steps-next [] [] request begins = cc
first_steps-next [] (s ∷ ss) request begins = cc
first_steps-next (g ∷ gs) [] request begins = cc
first_steps-next (g ∷ gs) (s ∷ ss) request begins =
    let tail : gs ++ request ∷ [] ≡ take (length (gs ++ request ∷ [])) ss = cc in
    first_steps-next gs ss request tail

-- ---- what was granted to a session, one grant later

module _ (shift session : ℕ) (before : List Grant) (grant : Grant) where
  abbrev counts : Grant → Bool
  counts g = (g.shift == shift) && (g.session == session)

  granted_to-append : granted_to shift session (before ++ grant ∷ []) ≡
      granted_to shift session before ++ granted_to shift session (grant ∷ [])
  granted_to-append =
      ap (λ gs. requests_of gs) (filter-append counts before (grant ∷ []))
      ∙ map-append (λ (g : Grant). g.request) (filter counts before) (filter counts (grant ∷ []))

  pub granted_to-own : grant.shift ≡ shift → grant.session ≡ session
      → granted_to shift session (before ++ grant ∷ []) ≡ granted_to shift session before ++ grant.request ∷ []
  granted_to-own own its =
      let both = and_from (grant.shift == shift) (grant.session == session) (eq-eqb grant.shift shift own)
      (eq-eqb grant.session session its) in
      granted_to-append
      ∙ ap (λ gs. granted_to shift session before ++ requests_of gs) (cond-true (counts grant) (grant ∷ []) [] both)

  left_out : counts grant ≡ false → granted_to shift session (before ++ grant ∷ []) ≡ granted_to shift session before
  left_out not_its =
      granted_to-append
      ∙ ap (λ gs. granted_to shift session before ++ requests_of gs) (cond-false (counts grant) (grant ∷ []) [] not_its)
      ∙ append-nil (granted_to shift session before)

  pub granted_to-other_shift : (grant.shift ≡ shift → ⊥)
      → granted_to shift session (before ++ grant ∷ []) ≡ granted_to shift session before
  granted_to-other_shift other =
      left_out (and_left (grant.shift == shift) (grant.session == session) (ne_eqb grant.shift shift other))

  pub granted_to-other_session : (grant.session ≡ session → ⊥)
      → granted_to shift session (before ++ grant ∷ []) ≡ granted_to shift session before
  granted_to-other_session other =
      left_out (and_right (grant.shift == shift) (grant.session == session) (ne_eqb grant.session session other))

-- after these grants this one is the next step of its session's script, and the session is the shift's
pub record IsNextStep (shift : Shift) (grants : List Grant) (grant : Grant) : Type 0 where
  pub session : IsSession shift grant.session
  pub step : slice_get (script_of shift grant.session) (first_step shift grant.session grants) ≡ Some grant.request

-- ---- whether the sessions are still started, one grant later

pub started-none : (shift : Shift) → AreFirstSteps shift []
started-none shift = record { each = λ session is. refl; known = All-nil _ }

module _ (shift : Shift) (before : List Grant) (grant : Grant) where
  abbrev more : List Grant
  more = before ++ grant ∷ []

  abbrev IsKnown : Grant → Type 0
  IsKnown g = g.shift ≡ shift.number → IsSession shift g.session

  stays : (session : ℕ) → granted_to shift.number session more ≡ granted_to shift.number session before
      → HasFirstSteps shift session before → HasFirstSteps shift session more
  stays session same started = rw same started

  pub passes : AreFirstSteps shift before → (grant.shift ≡ shift.number → ⊥) → AreFirstSteps shift more
  passes started other = record {
    each = λ session is.
        stays session (granted_to-other_shift shift.number session before grant other) (started.each session is);
    known = All-push IsKnown before grant started.known (λ own. absurd (other own));
  }

  goes : AreFirstSteps shift before → grant.shift ≡ shift.number → IsNextStep shift before grant
      → HasFirstSteps shift grant.session more
  goes started own next =
      rw (granted_to-own shift.number grant.session before grant own refl)
      (first_steps-more (granted_to shift.number grant.session before) (script_of shift grant.session) grant.request
      (started.each grant.session next.session) next.step)

  pub goes_on : AreFirstSteps shift before → grant.shift ≡ shift.number → IsNextStep shift before grant → AreFirstSteps shift more
  goes_on started own next = record {
    each = λ session is.
        ⊎_elim
        (λ its. subst (λ session. HasFirstSteps shift session more) its (goes started own next))
        (λ other. stays session (granted_to-other_session shift.number session before grant other) (started.each session is))
        (cases_eq grant.session session);
    known = All-push IsKnown before grant started.known (λ own. next.session);
  }

  -- a grant after which they are, is the next step
  pub was_next : grant.shift ≡ shift.number → AreFirstSteps shift more → IsNextStep shift before grant
  was_next own started =
      let session = (All-pop IsKnown more before (Some grant) refl started.known).1 own in
      record {
        session = session;
        step = first_steps-next (granted_to shift.number grant.session before) (script_of shift grant.session) grant.request
            (rw (granted_to-own shift.number grant.session before grant own refl) at (started.each grant.session session));
      }

  -- the grants of another shift lead no session on
  pub pass_by : (progress : List Progress) → IsReached shift before progress → (grant.shift ≡ shift.number → ⊥)
      → IsReached shift more progress
  pass_by progress reached other = record {
    started = passes reached.started other;
    stand = λ k at is. rw (granted_to-other_shift shift.number (k + 1) before grant other) (reached.stand k at is);
  }

  -- the next step leads its session a step further, and the others stand where they stood
  module _ (progress : List Progress) (k : ℕ) (own : grant.shift ≡ shift.number) (its : k + 1 ≡ grant.session) where
    stands : (next : Progress) → next ≡ begin_at (first_step shift grant.session before + 1) → StandAtStart shift before progress
        → StandAtStart shift more (slice_set progress k next)
    stands next goes stand j at is = ⊎_elim here there (cases_eq j k)
      where
        inside : j < length progress
        inside = omega (arith, slice_get_within (slice_set progress k next) j at is, length-set progress k next)

        written : at ≡ get_or (slice_set progress k next) j next
        written = sym (get_or_from_slice_get (slice_set progress k next) j at next is)

        here : j ≡ k → at ≡ begin_at (first_step shift (j + 1) more)
        here same =
            let room : k < length progress = omega (arith, inside) in
            let now : get_or (slice_set progress k next) j next ≡ next =
            ap (λ i. get_or (slice_set progress k next) i next) same ∙ get_or-set_same progress k next next room in
            let session : grant.session ≡ j + 1 = omega arith in
            let count : first_step shift (j + 1) more ≡ first_step shift (j + 1) before + 1 =
            ap (λ (rs : List Request). length rs) (granted_to-own shift.number (j + 1) before grant own session)
            ∙ length_push (granted_to shift.number (j + 1) before) grant.request in
            rw (count, ← session) (written ∙ now ∙ goes)

        there : (j ≡ k → ⊥) → at ≡ begin_at (first_step shift (j + 1) more)
        there other =
            let stood : get_or (slice_set progress k next) j next ≡ get_or progress j next =
            get_or-set_other progress k j next next other in
            rw (granted_to-other_session shift.number (j + 1) before grant (λ same. other (omega arith)))
            (written ∙ stood ∙ stand j (get_or progress j next) (slice_get-get_or progress j next inside))

    module _ (script : List Request) (d : Progress) (is : slice_get shift.scripts k ≡ Some script) (inside : k < length progress)
        (reached : IsReached shift before progress) where
      stood : get_or progress k d ≡ begin_at (first_step shift grant.session before)
      stood =
          reached.stand k (get_or progress k d) (slice_get-get_or progress k d inside)
          ∙ ap (λ s. begin_at (first_step shift s before)) its

      script_is : script_of shift grant.session ≡ script
      script_is = ap (λ s. script_of shift s) (sym its) ∙ script_at shift k script is

      there : (slice_get (script_of shift grant.session) (first_step shift grant.session before) ≡
          slice_get script (get_or progress k d).step)
      there =
          ap (λ (p : Progress). slice_get (script_of shift grant.session) p.step) (sym stood)
          ∙ ap (λ (s : List Request). slice_get s (get_or progress k d).step) script_is

      pub lead_on : (next : Progress) → slice_get script (get_or progress k d).step ≡ Some grant.request
          → next ≡ begin_at ((get_or progress k d).step + 1) → IsReached shift more (slice_set progress k next)
      lead_on next step goes =
          let session : IsSession shift grant.session = (omega arith, omega (arith, slice_get_within shift.scripts k script is)) in
          let is_next : IsNextStep shift before grant = record { session = session; step = there ∙ step } in
          record {
            started = goes_on reached.started own is_next;
            stand = stands next (goes ∙ ap (λ (p : Progress). begin_at (p.step + 1)) stood) reached.stand;
          }

      pub next_there : AreFirstSteps shift more → slice_get script (get_or progress k d).step ≡ Some grant.request
      next_there started = sym there ∙ (was_next own started).step

-- ---- along the grants

-- no session has had a grant
pub reached-none : (shift : Shift) (progress : List Progress) (n : ℕ) → progress ≡ replicate n (begin_at 0) → IsReached shift [] progress
reached-none shift progress n all = rw all (record {
  started = started-none shift;
  stand = λ k at there. sym (get_or_from_slice_get (replicate n (begin_at 0)) k at (begin_at 0) there) ∙ same_everywhere n k (begin_at 0);
})

-- a grant after which they are first steps no more, is a stray
pub is_other_shift : (shift : Shift) (grants : List Grant) (grant : Grant) → AreFirstSteps shift grants
    → (AreFirstSteps shift (grants ++ grant ∷ []) → ⊥) → IsOtherShift shift (grants ++ grant ∷ []) grant.session
is_other_shift shift grants grant started strays = record {
  before = grants;
  stray = grant;
  later = [];
  parted = refl;
  started = started;
  strays = strays;
  session_is = refl;
}

-- a stray is one after any later grant
pub stays_other_shift : (shift : Shift) (grants : List Grant) (grant : Grant) (session : ℕ) → IsOtherShift shift grants session
    → IsOtherShift shift (grants ++ grant ∷ []) session
stays_other_shift shift grants grant session other = record {
  before = other.before;
  stray = other.stray;
  later = other.later ++ grant ∷ [];
  parted = ap (λ gs. gs ++ grant ∷ []) other.parted ∙ append_assoc other.before (other.stray ∷ other.later) (grant ∷ []);
  started = other.started;
  strays = other.strays;
  session_is = other.session_is;
}

-- a list that is written over as a whole
pub refilled : (stands written : List Progress) → length written ≡ length stands → refill (length stands) stands written ≡ written
refilled stands written same =
    ap (λ (n : ℕ). take n (written ++ drop (length written) stands)) (sym same)
    ∙ take_at written (drop (length written) stands) (length written) refl

-- without a stray the sessions stand after the grants
pub led_reached : (shift : Shift) (grants : List Grant) (progress : List Progress) (stray : Option ℕ) → is_some stray ≡ false
    → IsLed shift grants progress stray → IsReached shift grants progress
led_reached shift grants progress None none led = led
led_reached shift grants progress (Some session) none led = cc

-- with one, a grant more changes nothing
pub stays_led : (shift : Shift) (grants : List Grant) (grant : Grant) (progress : List Progress) (stray : Option ℕ) → is_some stray ≡ true
    → IsLed shift grants progress stray → IsLed shift (grants ++ grant ∷ []) progress stray
stays_led shift grants grant progress None some led = cc
stays_led shift grants grant progress (Some session) some led = stays_other_shift shift grants grant session led
