-- First steps of a shift are no more than its scripts have.
use Rattle.std.proofs.Common.{◌≡◌, ◌≢◌, inl, inr, ℕ, suc, ◌+◌, ◌<◌, ◌≤◌, ◌==◌, ◌&&◌, Bool, true, List, [], ◌∷◌, length}
use Rattle.std.proofs.Common.{Some, slice_get, All, refl, ap, ◌∙◌, arith}
use Rattle.std.specs.List.{filter, sum_by}
use Rattle.std.proofs.lemmas.Bool.{and_from, and_right, cases_lt, cond-false, cond-true, eq-eqb, eqb-true, ne_eqb}
use Rattle.std.proofs.lemmas.List.{length-take}
use Rattle.std.proofs.lemmas.List.Elements.{All-head, All-tail}
use Rattle.std.proofs.lemmas.List.Sums.{sum_by-cons}
use Rattle.std.proofs.lemmas.Option.{slice_get_within}
use Rattle.cell_base.specs.declared.requests.Request.{Request}
use Rattle.cell_base.specs.declared.shifts.Grant.{Grant}
use Rattle.cell_base.specs.declared.shifts.Shift.{Shift}
use Rattle.cell_base.specs.Fits.{steps_of}
use Rattle.cell_base.specs.Histories.{requests_of}
use Rattle.cell_base.specs.Rounds.{IsSession}
use Rattle.cell_base.specs.Scripts.{HasFirstSteps, granted_to, script_of}
use Rattle.cell_base.specs.Starts.{AreFirstSteps}
use Rattle.solo_rounds.proofs.Counting.{script_at}

module _ (number : ℕ) where
  abbrev counts : ℕ → Grant → Bool
  counts session grant = (grant.shift == number) && (grant.session == session)

  -- how many of them a session has
  abbrev had : ℕ → List Grant → ℕ
  had session grants = length (granted_to number session grants)

  -- how many the sessions from `first` on have, one session a script
  abbrev counted : ℕ → List (List Request) → List Grant → ℕ
  counted first [] grants = 0
  counted first (script ∷ scripts) grants = had first grants + counted (first + 1) scripts grants

  counted_none : (first : ℕ) (scripts : List (List Request)) → counted first scripts [] ≡ 0
  counted_none first [] = refl
  counted_none first (script ∷ scripts) = omega (arith, counted_none (first + 1) scripts)

  module _ (grant : Grant) (grants : List Grant) (own : grant.shift ≡ number) where
    of_another : (session : ℕ) → grant.session ≢ session → had session (grant ∷ grants) ≡ had session grants
    of_another session other =
        ap (λ (gs : List Grant). length (requests_of gs))
        (cond-false (counts session grant) (grant ∷ filter (counts session) grants) (filter (counts session) grants)
        (and_right (grant.shift == number) (grant.session == session) (ne_eqb grant.session session other)))

    of_this : (session : ℕ) → grant.session ≡ session → had session (grant ∷ grants) ≡ had session grants + 1
    of_this session same =
        ap (λ (gs : List Grant). length (requests_of gs))
        (cond-true (counts session grant) (grant ∷ filter (counts session) grants) (filter (counts session) grants)
        (and_from (grant.shift == number) (grant.session == session) (eq-eqb grant.shift number own) (eq-eqb grant.session session same)))
        ∙ omega arith

    -- a grant counts once
    counted_below : (first : ℕ) (scripts : List (List Request)) → grant.session < first
        → counted first scripts (grant ∷ grants) ≡ counted first scripts grants
    counted_below first [] below = refl
    counted_below first (script ∷ scripts) below =
        omega (arith, of_another first (λ same. omega (arith, same, below)), counted_below (first + 1) scripts (omega (arith, below)))

    counted_more : (first : ℕ) (scripts : List (List Request)) → first ≤ grant.session → grant.session < first + length scripts
        → counted first scripts (grant ∷ grants) ≡ counted first scripts grants + 1
    counted_more first [] low high = absurd (omega (arith, low, high))
    counted_more first (script ∷ scripts) low high = elim (cases_lt first grant.session) [
      | inl later ↦
          omega (
            arith,
            of_another first (λ same. omega (arith, same, later)),
            counted_more (first + 1) scripts (omega (arith, later)) (omega (arith, high)),
          )
      | inr here ↦ omega (arith, of_this first (omega (arith, low, here)), counted_below (first + 1) scripts (omega (arith, here)))
    ]

  -- each session has at most so many as its script has steps
  abbrev AtMost : ℕ → List (List Request) → List Grant → Type 0
  AtMost first scripts grants = (k n : ℕ) (script : List Request) → n ≡ first + k → slice_get scripts k ≡ Some script
      → had n grants ≤ length script

  counted-le : (first : ℕ) (scripts : List (List Request)) (grants : List Grant) → AtMost first scripts grants
      → counted first scripts grants ≤ sum_by length scripts
  counted-le first [] grants most = omega arith
  counted-le first (script ∷ scripts) grants most =
      let one = most 0 first script (omega arith) refl in
      let rest = counted-le (first + 1) scripts grants (λ k n other at is. most (suc k) n other (omega (arith, at)) is) in
      rw (sum_by-cons (length {A = Request}) script scripts) (omega (arith, one, rest))

module _ (shift : Shift) where
  abbrev pub IsOwn : Grant → Type 0
  IsOwn grant = (grant.shift == shift.number) ≡ true

  abbrev IsKnown : Grant → Type 0
  IsKnown grant = grant.shift ≡ shift.number → IsSession shift grant.session

  all_counted : (grants : List Grant) → All IsOwn grants → All IsKnown grants
      → counted shift.number 1 shift.scripts grants ≡ length grants
  all_counted [] own known = counted_none shift.number 1 shift.scripts
  all_counted (grant ∷ grants) own known =
      let its = eqb-true grant.shift shift.number (All-head IsOwn grant grants own) in
      let session = All-head IsKnown grant grants known its in
      omega (
        arith,
        counted_more shift.number grant grants its 1 shift.scripts session.0 (omega (arith, session.1)),
        all_counted grants (All-tail IsOwn grant grants own) (All-tail IsKnown grant grants known),
      )

  pub few_steps : (grants : List Grant) → All IsOwn grants → AreFirstSteps shift grants → length grants ≤ steps_of shift
  few_steps grants own started =
      omega (arith, all_counted grants own started.known, counted-le shift.number 1 shift.scripts grants at_most)
    where
      at_most : AtMost shift.number 1 shift.scripts grants
      at_most k n script at is =
          let session : n ≡ k + 1 = omega (arith, at) in
          let first : HasFirstSteps shift n grants =
          started.each n (omega (arith, at), omega (arith, at, slice_get_within shift.scripts k script is)) in
          let granted = granted_to shift.number n grants in
          omega (
            arith,
            ap (λ (rs : List Request). length rs) first,
            length-take (length granted) (script_of shift n),
            ap (λ (rs : List Request). length rs) (ap (script_of shift) session ∙ script_at shift k script is),
          )
