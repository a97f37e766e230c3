-- Each session of a history without a halt went through its script.
use mathlib.Core.List.{IsPrefix}
use Rattle.std.proofs.Common.{◌≡◌, ◌⊎◌, inl, inr, ℕ, ◌*◌, ◌<◌, ◌≤◌, ◌==◌, Bool, true, false, cond, List}
use Rattle.std.proofs.Common.{[], ◌∷◌, ◌++◌, length, All, refl, sym, ap, ◌∙◌, subst, arith, length-take}
use Rattle.std.proofs.lemmas.Bool.{cond-true, or_parts, or_from, cases_lt, eq-eqb, true≢false}
use Rattle.std.proofs.lemmas.List.Elements.{All-nil, All-cons}
use Rattle.cell_base.specs.declared.shifts.Entry.{Entry}
use Rattle.cell_base.specs.declared.shifts.Grant.{Grant}
use Rattle.cell_base.specs.declared.shifts.Shift.{Shift}
use Rattle.cell_base.specs.Fits.{steps_of}
use Rattle.cell_base.specs.Histories.{entries_of, was_halted}
use Rattle.cell_base.specs.Rounds.{IsSession}
use Rattle.cell_base.specs.Scripts.{IsTrace, IsWholeTrace, begin_at, holds_halt, script_of, first_step}
use Rattle.solo_rounds.proofs.Traces.{holds_halt-entries_of}
use Rattle.cell_base.specs.Starts.{AreFirstSteps}
use Rattle.run_command.specs.Run.{EachSession}
use Rattle.run_command.specs.JournalRuns.{HasGone}
use Rattle.run_command.proofs.Counting.{each_ended}

-- ---- a halt

-- a prefix of a history without a halt has none
unhalted_first : (first behind : List Entry) → holds_halt (first ++ behind) ≡ false → holds_halt first ≡ false
unhalted_first [] behind unhalted = refl
unhalted_first (e ∷ es) behind unhalted =
    let both = or_parts (was_halted e.told) (holds_halt (es ++ behind)) unhalted in
    or_from (was_halted e.told) (holds_halt es) both.0 (unhalted_first es behind both.1)

prefix_unhalted : (seen history : List Entry) → IsPrefix seen history → holds_halt history ≡ false → holds_halt seen ≡ false
prefix_unhalted seen history begins unhalted =
    unhalted_first seen begins.0 (subst (λ (es : List Entry). holds_halt es ≡ false) (sym begins.1) unhalted)

prefix_short : (seen history : List Entry) → IsPrefix seen history → length seen ≤ length history
prefix_short seen history begins = omega (arith, ap length begins.1, length_after seen begins.0)
  where
    length_after : (xs ys : List Entry) → length xs ≤ length (xs ++ ys)
    length_after [] ys = omega arith
    length_after (x ∷ xs) ys = omega (arith, length_after xs ys)

-- ---- no one else has an entry

-- an entry has a number of the shift, or there is an entry of another number
pub all_sessions : (shift : Shift) (history : List Entry)
    → ((number : ℕ) → (number ≡ 0) ⊎ (length shift.scripts < number) → entries_of number history ≡ [])
    → All (λ (e : Entry). IsSession shift e.session) history
all_sessions shift [] others = All-nil _
all_sessions shift (e ∷ es) others =
    All-cons (λ (x : Entry). IsSession shift x.session) e es (session (λ outside. none_here outside))
    (all_sessions shift es (λ number outside. rest number outside))
  where
    own : entries_of e.session (e ∷ es) ≡ e ∷ entries_of e.session es
    own = cond-true _ _ _ (eq-eqb e.session e.session refl)

    none_here : (e.session ≡ 0) ⊎ (length shift.scripts < e.session) → ⊥
    none_here outside = let none = others e.session outside in absurd (omega (arith, ap length (sym own ∙ none)))

    session : ((e.session ≡ 0) ⊎ (length shift.scripts < e.session) → ⊥) → IsSession shift e.session
    session inside = (
      elim (cases_lt 0 e.session) [ inl more ↦ omega (arith, more) | inr none ↦ absurd (inside (inl (omega (arith, none)))) ],
      elim (cases_lt (length shift.scripts) e.session) [ inl beyond ↦ absurd (inside (inr beyond)) | inr within ↦ within ],
    )

    drop_first : (number : ℕ) (kept : Bool) → cond kept (e ∷ entries_of number es) (entries_of number es) ≡ [] → entries_of number es ≡ []
    drop_first number true none = absurd (omega (arith, ap length none))
    drop_first number false none = none

    rest : (number : ℕ) → (number ≡ 0) ⊎ (length shift.scripts < number) → entries_of number es ≡ []
    rest number outside = drop_first number (e.session == number) (others number outside)

-- ---- no session stops before its end, but for a halt

-- the grants of a session that are first steps of its script are no more than the script has
pub starts_within : (shift : Shift) (opening : List Grant) → AreFirstSteps shift opening → (session : ℕ) → IsSession shift session
    → first_step shift session opening ≤ length (script_of shift session)
starts_within shift opening started session is =
    let granted = started.each session is in
    omega (arith, ap length granted, length-take (first_step shift session opening) (script_of shift session))

module _ (shift : Shift) (opening : List Grant) (history : List Entry) (started : AreFirstSteps shift opening)
    (sessions : All (λ (e : Entry). IsSession shift e.session) history)
    (gone : (session : ℕ) → IsSession shift session → HasGone shift opening history session) where
  pub traces : EachSession IsTrace shift opening history
  traces session is = (gone session is).trace

  -- all asks that there are were asked: then each session has ended
  full : holds_halt history ≡ false → steps_of shift * shift.patience ≤ length history → (session : ℕ) → IsSession shift session
      → IsWholeTrace (script_of shift session) shift.patience (begin_at (first_step shift session opening)) (entries_of session history)
  full no_halt all session is = record {
    trace = traces session is;
    unhalted = holds_halt-entries_of session history no_halt;
    ended = each_ended shift history (λ s. first_step shift s opening) no_halt traces (starts_within shift opening started) sessions all
        session is;
  }

  pub whole_traces : holds_halt history ≡ false → EachSession IsWholeTrace shift opening history
  whole_traces no_halt session is =
      let went = gone session is in
      by_end went.seen went.begins went.ended
    where
      by_end : (seen : List Entry) → IsPrefix seen history
          → IsWholeTrace (script_of shift session) shift.patience (begin_at (first_step shift session opening)) (entries_of session history)
          ⊎ ((holds_halt seen ≡ true) ⊎ (steps_of shift * shift.patience ≤ length seen))
          → IsWholeTrace (script_of shift session) shift.patience (begin_at (first_step shift session opening)) (entries_of session history)
      by_end seen begins (inl whole) = whole
      by_end seen begins (inr (inl halted)) = absurd (true≢false (sym halted ∙ prefix_unhalted seen history begins no_halt))
      by_end seen begins (inr (inr all)) = full no_halt (omega (arith, all, prefix_short seen history begins)) session is
