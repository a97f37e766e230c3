-- A history of as many entries as the sessions may ask at most: each of them has ended.
use Rattle.std.proofs.Common.{◌≡◌, ◌≢◌, inl, inr, ℕ, zero, suc, ◌+◌, ◌-◌, ◌*◌, ◌<◌, ◌≤◌, false, Some, List}
use Rattle.std.proofs.Common.{[], ◌∷◌, length, All, slice_get, get_or, refl, sym, ap, ◌∙◌, subst, arith}
use Rattle.std.specs.List.{sum_by}
use Rattle.std.proofs.lemmas.Bool.{or_parts, cond-true, cond-false, cases_lt, eq-eqb, ne_eqb}
use Rattle.std.proofs.lemmas.Option.{same_Some, slice_get_within, slice_get-get_or}
use Rattle.std.proofs.lemmas.List.Elements.{All-head, All-tail}
use Rattle.std.proofs.lemmas.List.Sums.{sum_by-cons}
use Rattle.cell_base.specs.declared.requests.Request.{Request}
use Rattle.cell_base.specs.declared.requests.Reply.TheVariants.{Granted, Refused}
use Rattle.cell_base.specs.declared.requests.Told.{Told}
use Rattle.cell_base.specs.declared.requests.Told.TheVariants.{Answered, Halted}
use Rattle.cell_base.specs.declared.shifts.Entry.{Entry}
use Rattle.cell_base.specs.declared.shifts.Shift.{Shift}
use Rattle.cell_base.specs.Fits.{steps_of}
use Rattle.cell_base.specs.Histories.{entries_of, was_halted}
use Rattle.cell_base.specs.Rounds.{IsSession}
use Rattle.cell_base.specs.Scripts.{Progress, IsTrace, HasEnded, begin_at, progress_after, progress_through, holds_halt, script_of}
use Rattle.solo_rounds.specs.Underway.{IsWithinScript, script_asks_left}
use Rattle.solo_rounds.proofs.Counting.{script_asks_left-falls, script_at}
use Rattle.solo_rounds.proofs.Traces.{holds_halt-entries_of}

-- ---- the entries of one session

module _ (script : List Request) (patience : ℕ) where
  -- an ask of a step keeps within the script, and takes one from what is left
  goes_on : (at : Progress) (told : Told) → was_halted told ≡ false → at.step < length script → at.refusals < patience
      → IsWithinScript script patience (progress_after at told)
      × (script_asks_left patience script (progress_after at told) < script_asks_left patience script at)
  goes_on at (Answered Granted) unhalted step patient =
      (record { step = omega (arith, step); refusals = omega arith }, script_asks_left-falls script patience at _ Granted step patient refl)
  goes_on at (Answered (Refused why)) unhalted step patient = (
    record { step = omega (arith, step); refusals = omega (arith, patient) },
    script_asks_left-falls script patience at _ (Refused why) step patient refl,
  )
  goes_on at Halted unhalted step patient = absurd (cc)

  -- there are no more entries than there was left, and what is then left stands after them
  trace_left : (at : Progress) (entries : List Entry) → holds_halt entries ≡ false → IsTrace script patience at entries
      → IsWithinScript script patience at
      → IsWithinScript script patience (progress_through at entries)
      × (length entries + script_asks_left patience script (progress_through at entries) ≤ script_asks_left patience script at)
  trace_left at [] unhalted trace within = (within, omega arith)
  trace_left at (e ∷ es) unhalted trace within =
      let both = or_parts (was_halted e.told) (holds_halt es) unhalted in
      let on = goes_on at e.told both.0 (slice_get_within script at.step e.request trace.1) trace.0 in
      let rest = trace_left (progress_after at e.told) es both.1 trace.3 on.0 in
      (rest.0, omega (arith, rest.1, on.1))

  spare_none : (n refusals : ℕ) → (n + 1) * patience - refusals ≤ 0 → refusals ≤ patience → refusals ≡ patience
  spare_none n refusals none few = omega (arith, none, few)

  -- a session that has no ask left has ended
  none_left : (at : Progress) → IsWithinScript script patience at → script_asks_left patience script at ≤ 0 → HasEnded script patience at
  none_left at within none = elim (cases_lt at.step (length script)) [
    | inl before ↦
        let more : length script - at.step ≡ (length script - (at.step + 1)) + 1 = omega (arith, before) in
        inr (spare_none (length script - (at.step + 1)) at.refusals
        (subst (λ (n : ℕ). n * patience - at.refusals ≤ 0) more none) within.refusals)
    | inr behind ↦ inl (omega (arith, behind, within.step))
  ]

  fewer : (n more : ℕ) → n * patience ≤ (n + more) * patience
  fewer n more = omega arith

  -- a session that begins at some step has no more asks left than all its steps have
  script_asks_left-le : (step : ℕ) → step ≤ length script → script_asks_left patience script (begin_at step) ≤ length script * patience
  script_asks_left-le step within =
      let all : (length script - step) + step ≡ length script = omega (arith, within) in
      omega (arith, subst (λ (n : ℕ). (length script - step) * patience ≤ n * patience) all (fewer (length script - step) step))

-- ---- the entries of all sessions

-- how many entries have the numbers from `first` on, one number a script
abbrev counted : ℕ → List (List Request) → List Entry → ℕ
counted first [] history = 0
counted first (script ∷ scripts) history = length (entries_of first history) + counted (first + 1) scripts history

counted_none : (first : ℕ) (scripts : List (List Request)) → counted first scripts [] ≡ 0
counted_none first [] = refl
counted_none first (s ∷ ss) = omega (arith, counted_none (first + 1) ss)

of_another : (number : ℕ) (e : Entry) (history : List Entry) → e.session ≢ number
    → length (entries_of number (e ∷ history)) ≡ length (entries_of number history)
of_another number e history other = ap length (cond-false _ _ _ (ne_eqb e.session number other))

of_this : (number : ℕ) (e : Entry) (history : List Entry) → e.session ≡ number
    → length (entries_of number (e ∷ history)) ≡ length (entries_of number history) + 1
of_this number e history same = ap length (cond-true _ _ _ (eq-eqb e.session number same)) ∙ omega arith

-- an entry counts once
counted_below : (first : ℕ) (scripts : List (List Request)) (e : Entry) (history : List Entry) → e.session < first
    → counted first scripts (e ∷ history) ≡ counted first scripts history
counted_below first [] e history below = refl
counted_below first (s ∷ ss) e history below =
    omega (
      arith,
      of_another first e history (λ same. omega (arith, same, below)),
      counted_below (first + 1) ss e history
          (omega (arith, below)),
    )

counted_more : (first : ℕ) (scripts : List (List Request)) (e : Entry) (history : List Entry) → first ≤ e.session
    → e.session < first + length scripts → counted first scripts (e ∷ history) ≡ counted first scripts history + 1
counted_more first [] e history low high = absurd (omega (arith, low, high))
counted_more first (s ∷ ss) e history low high = elim (cases_lt first e.session) [
  | inl later ↦
      omega (
        arith,
        of_another first e history (λ same. omega (arith, same, later)),
        counted_more (first + 1) ss e history (omega (arith, later)) (omega (arith, high)),
      )
  | inr here ↦
      omega (arith, of_this first e history (omega (arith, low, here)), counted_below (first + 1) ss e history (omega (arith, here)))
]

all_counted : (shift : Shift) (history : List Entry) → All (λ (e : Entry). IsSession shift e.session) history
    → counted 1 shift.scripts history ≡ length history
all_counted shift [] sessions = counted_none 1 shift.scripts
all_counted shift (e ∷ es) sessions =
    let Of : Entry → Type 0 = λ entry. IsSession shift entry.session in
    let first : IsSession shift e.session = All-head Of e es sessions in
    omega (arith, counted_more 1 shift.scripts e es first.0 (omega (arith, first.1)), all_counted shift es (All-tail Of e es sessions))

-- ---- no session falls short of the most, where all together don't

-- each number has at most so many entries as its script has asks
abbrev AtMost : ℕ → ℕ → List (List Request) → List Entry → Type 0
AtMost patience first scripts history = (k n : ℕ) (script : List Request) → n ≡ first + k → slice_get scripts k ≡ Some script
    → length (entries_of n history) ≤ length script * patience

rest_at_most : (patience first : ℕ) (script : List Request) (scripts : List (List Request)) (history : List Entry)
    → AtMost patience first (script ∷ scripts) history → AtMost patience (first + 1) scripts history
rest_at_most patience first script scripts history most k n other at is = most (suc k) n other (omega (arith, at)) is

counted-le : (patience first : ℕ) (scripts : List (List Request)) (history : List Entry) → AtMost patience first scripts history
    → counted first scripts history ≤ sum_by length scripts * patience
counted-le patience first [] history most = grind arith
counted-le patience first (s ∷ ss) history most =
    let one = most 0 first s (omega arith) refl in
    let rest = counted-le patience (first + 1) ss history (rest_at_most patience first s ss history most) in
    rw (sum_by-cons (length {A = Request}) s ss) (omega (arith, one, rest))

parted : (patience script scripts entries counted : ℕ) → (script + scripts) * patience ≤ entries + counted
    → (entries ≤ script * patience → scripts * patience ≤ counted) × (counted ≤ scripts * patience → script * patience ≤ entries)
parted patience script scripts entries counted all = (λ few. omega (arith, all, few), λ few. omega (arith, all, few))

parted_at : (patience first : ℕ) (script : List Request) (scripts : List (List Request)) (history : List Entry)
    → sum_by length (script ∷ scripts) * patience ≤ counted first (script ∷ scripts) history
    → (length (entries_of first history) ≤ length script * patience
    → sum_by length scripts * patience ≤ counted (first + 1) scripts history)
    × (counted (first + 1) scripts history ≤ sum_by length scripts * patience
    → length script * patience ≤ length (entries_of first history))
parted_at patience first script scripts history all =
    parted patience (length script) (sum_by length scripts) (length (entries_of first history)) (counted (first + 1) scripts history)
    (subst (λ (n : ℕ). n * patience ≤ counted first (script ∷ scripts) history) (sum_by-cons (length {A = Request}) script scripts) all)

each_full : (patience first : ℕ) (scripts : List (List Request)) (history : List Entry) → AtMost patience first scripts history
    → sum_by length scripts * patience ≤ counted first scripts history
    → (k n : ℕ) (script : List Request) → n ≡ first + k → slice_get scripts k ≡ Some script
    → length script * patience ≤ length (entries_of n history)
each_full patience first [] history most all k n script at is = absurd (cc)
each_full patience first (s ∷ ss) history most all zero n script at is =
    let both = parted_at patience first s ss history all in
    let rest = counted-le patience (first + 1) ss history (rest_at_most patience first s ss history most) in
    let here : first ≡ n = omega (arith, at) in
    subst (λ (m : ℕ). length script * patience ≤ length (entries_of m history)) here
    (subst (λ (r : List Request). length r * patience ≤ length (entries_of first history)) (same_Some s script is) (both.1 rest))
each_full patience first (s ∷ ss) history most all (suc k) n script at is =
    let both = parted_at patience first s ss history all in
    each_full patience (first + 1) ss history (rest_at_most patience first s ss history most) (both.0 (most 0 first s (omega arith) refl))
    k n script (omega (arith, at)) is

-- ---- all sessions

module _ (shift : Shift) (history : List Entry) (start : ℕ → ℕ) where
  abbrev at_first : ℕ → Progress
  at_first session = begin_at (start session)

  abbrev AreTraces : Type 0
  AreTraces = (session : ℕ) → IsSession shift session
      → IsTrace (script_of shift session) shift.patience (at_first session) (entries_of session history)

  abbrev AreWithin : Type 0
  AreWithin = (session : ℕ) → IsSession shift session → start session ≤ length (script_of shift session)

  module _ (unhalted : holds_halt history ≡ false) (traces : AreTraces) (within : AreWithin) where
    left : (session : ℕ) → IsSession shift session
        → let script = script_of shift session in let behind = progress_through (at_first session) (entries_of session history) in
        IsWithinScript script shift.patience behind
        × (length (entries_of session history) + script_asks_left shift.patience script behind ≤ length script * shift.patience)
    left session is =
        let both = trace_left (script_of shift session) shift.patience (at_first session) (entries_of session history)
        (holds_halt-entries_of session history unhalted) (traces session is)
        (record { step = within session is; refusals = omega arith }) in
        (both.0, omega (arith, both.1, script_asks_left-le (script_of shift session) shift.patience (start session) (within session is)))

    at_most : AtMost shift.patience 1 shift.scripts history
    at_most k n script at is =
        let session : n ≡ k + 1 = omega (arith, at) in
        let own : script_of shift n ≡ script = ap (script_of shift) session ∙ script_at shift k script is in
        let inside = slice_get_within shift.scripts k script is in
        let few = (left n (omega (arith, at), omega (arith, at, inside))).1 in
        subst (λ (r : List Request). length (entries_of n history) ≤ length r * shift.patience) own (omega (arith, few))

    -- each session has ended, where there are as many entries as all of them may ask at most
    pub each_ended : All (λ (e : Entry). IsSession shift e.session) history → steps_of shift * shift.patience ≤ length history
        → (session : ℕ) → IsSession shift session
        → HasEnded (script_of shift session) shift.patience (progress_through (at_first session) (entries_of session history))
    each_ended sessions all session is =
        let script : List Request = get_or shift.scripts (session - 1) [] in
        let there : slice_get shift.scripts (session - 1) ≡ Some script =
        slice_get-get_or shift.scripts (session - 1) [] (omega (arith, is.0, is.1)) in
        let number : session ≡ (session - 1) + 1 = omega (arith, is.0) in
        let own : script ≡ script_of shift session = sym (ap (script_of shift) number ∙ script_at shift (session - 1) script there) in
        let full : length script * shift.patience ≤ length (entries_of session history) =
        each_full shift.patience 1 shift.scripts history at_most (omega (arith, all, all_counted shift history sessions)) (session - 1)
        session
        script (omega (arith, is.0)) there in
        let most = left session is in
        none_left (script_of shift session) shift.patience _ most.0
        (omega (arith, most.1, subst (λ (r : List Request). length r * shift.patience ≤ length (entries_of session history)) own full))
