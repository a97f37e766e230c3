-- Where the sessions of a shift start is told by the first grants of its number.
use Rattle.std.proofs.Common.{◌≡◌, inl, inr, ℕ, ◌+◌, ◌<◌, ◌≤◌, ◌==◌, Bool, List, [], ◌∷◌, ◌++◌, length, take, drop}
use Rattle.std.proofs.Common.{sym, ap, ◌∙◌, subst, arith, append-nil}
use Rattle.std.proofs.lemmas.Bool.{cases_lt, cond-false, cond-true, eq-eqb, ne_eqb}
use Rattle.std.proofs.lemmas.List.{append_assoc, length-take, length-take-le, length_push, take-append-drop, take-append-le, take_all}
use Rattle.std.proofs.lemmas.List.Elements.{All-take, filter-append, filter_passes}
use Rattle.cell_base.specs.declared.limits.TheConstants.{MAX_STEPS}
use Rattle.cell_base.specs.declared.shifts.Grant.{Grant}
use Rattle.cell_base.specs.declared.shifts.Shift.{Shift}
use Rattle.cell_base.specs.Fits.{steps_of}
use Rattle.cell_base.specs.Starts.{AreFirstSteps, IsOtherShift}
use Rattle.cell_sessions.specs.declared.fault.BeginFault.{BeginFault}
use Rattle.cell_sessions.specs.declared.fault.BeginFault.TheVariants.{OtherShift, Memory}
use Rattle.cell_sessions.specs.declared.progress.Progress.{Progress}
use Rattle.cell_sessions.specs.Starting.{AreBegun, IsBeginFault, first_of_shift, of_shift}
use Rattle.cell_sessions.proofs.CountedSteps.{IsOwn, few_steps}
use Rattle.cell_sessions.proofs.OwnGrants as own

-- a stray among the first of some grants is one of all
other_later : (shift : Shift) (front back : List Grant) (session : ℕ) → IsOtherShift shift front session
    → IsOtherShift shift (front ++ back) session
other_later shift front back session other = record {
  before = other.before;
  stray = other.stray;
  later = other.later ++ back;
  parted = ap (λ (gs : List Grant). gs ++ back) other.parted ∙ append_assoc other.before (other.stray ∷ other.later) back;
  started = other.started;
  strays = other.strays;
  session_is = other.session_is;
}

module _ (shift : Shift) where
  abbrev firsts : List Grant → List Grant
  firsts grants = first_of_shift shift.number grants

  -- first steps of the shift are all grants of its number
  all_of_them : steps_of shift ≤ MAX_STEPS → (grants : List Grant) → AreFirstSteps shift (firsts grants)
      → firsts grants ≡ of_shift shift.number grants
  all_of_them fits grants started = elim (cases_lt MAX_STEPS (length kept)) [
    | inl more ↦ absurd (omega (arith, fits, few, length-take-le (MAX_STEPS + 1) kept (omega (arith, more))))
    | inr most ↦ take_all (MAX_STEPS + 1) kept (omega (arith, most))
  ]
    where
      kept : List Grant
      kept = of_shift shift.number grants

      few : length (firsts grants) ≤ steps_of shift
      few = few_steps shift (firsts grants)
          (All-take (IsOwn shift) (MAX_STEPS + 1) kept (filter_passes (λ (grant : Grant). grant.shift == shift.number) grants)) started

  pub started_all : steps_of shift ≤ MAX_STEPS → (grants : List Grant) → AreFirstSteps shift (firsts grants) → AreFirstSteps shift grants
  started_all fits grants started =
      own.started_all shift grants
      (subst (λ (gs : List Grant). AreFirstSteps shift gs) (all_of_them fits grants started) started)

  pub begun_all : steps_of shift ≤ MAX_STEPS → (grants : List Grant) (progress : List Progress) → AreFirstSteps shift (firsts grants)
      → AreBegun shift (firsts grants) progress → AreBegun shift grants progress
  begun_all fits grants progress started begun =
      own.begun_all shift grants progress
      (subst (λ (gs : List Grant). AreBegun shift gs progress) (all_of_them fits grants started) begun)

  pub fault_all : (grants : List Grant) (fault : BeginFault) → IsBeginFault shift (firsts grants) fault → IsBeginFault shift grants fault
  fault_all grants (OtherShift session) other =
      let kept : List Grant = of_shift shift.number grants in
      own.other_all shift grants session (subst (λ (gs : List Grant). IsOtherShift shift gs session)
      (take-append-drop (MAX_STEPS + 1) kept)
      (other_later shift (take (MAX_STEPS + 1) kept) (drop (MAX_STEPS + 1) kept) session other))
  fault_all grants Memory memory = tt

-- ---- one grant more

module _ (number : ℕ) (grants kept : List Grant) (grant : Grant) (is : kept ≡ first_of_shift number grants) where
  abbrev every : List Grant
  every = of_shift number grants

  abbrev test : Grant → Bool
  test g = g.shift == number

  own_more : grant.shift ≡ number → of_shift number (grants ++ grant ∷ []) ≡ every ++ grant ∷ []
  own_more own =
      filter-append test grants (grant ∷ [])
      ∙ ap (λ (gs : List Grant). every ++ gs) (cond-true (test grant) (grant ∷ []) [] (eq-eqb grant.shift number own))

  -- it is kept where it is of the number and there is room
  pub kept_more : grant.shift ≡ number → length kept ≤ MAX_STEPS → kept ++ grant ∷ [] ≡ first_of_shift number (grants ++ grant ∷ [])
  kept_more own room = elim (cases_lt MAX_STEPS (length every)) [
    | inl more ↦
        absurd (omega (arith, room, ap (λ (gs : List Grant). length gs) is, length-take-le (MAX_STEPS + 1) every (omega (arith, more))))
    | inr most ↦
        ap (λ (gs : List Grant). gs ++ grant ∷ []) (is ∙ take_all (MAX_STEPS + 1) every (omega (arith, most)))
        ∙ sym (take_all (MAX_STEPS + 1) (every ++ grant ∷ []) (omega (arith, most, length_push every grant)))
        ∙ ap (λ (gs : List Grant). take (MAX_STEPS + 1) gs) (sym (own_more own))
  ]

  -- without room it is none of the first
  pub kept_full : grant.shift ≡ number → MAX_STEPS < length kept → kept ≡ first_of_shift number (grants ++ grant ∷ [])
  kept_full own full =
      is
      ∙ sym (take-append-le (MAX_STEPS + 1) every (grant ∷ [])
      (omega (arith, full, ap (λ (gs : List Grant). length gs) is, length-take (MAX_STEPS + 1) every)))
      ∙ ap (λ (gs : List Grant). take (MAX_STEPS + 1) gs) (sym (own_more own))

  -- and another shift's is none either
  pub kept_other : (grant.shift ≡ number → ⊥) → kept ≡ first_of_shift number (grants ++ grant ∷ [])
  kept_other other =
      is
      ∙ ap (λ (gs : List Grant). take (MAX_STEPS + 1) gs) (sym (filter-append test grants (grant ∷ [])
      ∙ ap (λ (gs : List Grant). every ++ gs) (cond-false (test grant) (grant ∷ []) [] (ne_eqb grant.shift number other))
      ∙ append-nil every))
