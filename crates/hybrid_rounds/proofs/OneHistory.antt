-- There is at most one history of a hybrid in rounds: what is left of it after earlier entries begins with one ask, that of the least turn.
use Rattle.std.proofs.Common.{◌≡◌, ℕ, suc, ◌⊎◌, inl, inr, List, [], ◌∷◌, ◌++◌, length, arith, subst, sym, ◌∙◌, ap, refl}
use Rattle.std.specs.Prelude.{Some, slice_get}
use Rattle.std.specs.List.{All, AllPairs, Contains}
use Rattle.std.proofs.lemmas.Bool.{cases_eq, cond-true, cond-false, eq-eqb, ne_eqb, or_parts}
use Rattle.std.proofs.lemmas.Option.{same_Some, slice_get_within}
use Rattle.std.proofs.lemmas.List.Elements.{All-head, All-tail, All-contains}
use Rattle.cell_base.specs.declared.cells.Cell.{Cell}
use Rattle.cell_base.specs.declared.requests.Part.{Part}
use Rattle.cell_base.specs.declared.requests.Request.{Request}
use Rattle.cell_base.specs.declared.shifts.Entry.{Entry}
use Rattle.cell_base.specs.declared.shifts.Shift.{Shift}
use Rattle.cell_base.specs.Histories.{was_halted, entries_of}
use Rattle.cell_base.specs.Scripts.{Progress, begin_at, progress_after, progress_through, holds_halt, IsWholeTrace, script_of}
use Rattle.cell_base.specs.Rounds.{Turn, Precedes, turns_after, IsSession}
use Rattle.cell_base.proofs.Pairs.{pairs_head, pairs_tail}
use Rattle.cell_base.proofs.Histories.{progress_through-push}
use Rattle.solo_rounds.proofs.Traces.{entries_of-push, entries_of-other}
use Rattle.banker_check.specs.Hybrid.{reply_h, state_after_h}
use Rattle.hybrid_rounds.specs.declared.entries.HybridEntry.{HybridEntry}
use Rattle.hybrid_rounds.specs.Histories.{IsLegalHybrid, all_taken, taken}
use Rattle.hybrid_rounds.specs.Rounds.{IsHybridRoundRobin}

-- the entries of a session, where one more entry stands before the others
own_first : (entry : Entry) (entries : List Entry) → entries_of entry.session (entry ∷ entries) ≡ entry ∷ entries_of entry.session entries
own_first entry entries = cond-true _ _ _ (eq-eqb entry.session entry.session refl)

other_first : (session : ℕ) (entry : Entry) (entries : List Entry) → (entry.session ≡ session → ⊥)
    → entries_of session (entry ∷ entries) ≡ entries_of session entries
other_first session entry entries other = cond-false _ _ _ (ne_eqb entry.session session other)

-- a whole trace without its first entry
whole_after : (script : List Request) (patience : ℕ) (at : Progress) (entry : Entry) (entries : List Entry)
    → IsWholeTrace script patience at (entry ∷ entries) → IsWholeTrace script patience (progress_after at entry.told) entries
whole_after script patience at entry entries whole = record {
  trace = whole.trace.3;
  unhalted = (or_parts (was_halted entry.told) (holds_halt entries) whole.unhalted).1;
  ended = whole.ended;
}

-- a session has ended, or it asks again
ended_or_asks : (script : List Request) (patience : ℕ) (at : Progress) (entry : Entry) (entries : List Entry)
    → IsWholeTrace script patience at [] → IsWholeTrace script patience at (entry ∷ entries) → ⊥
ended_or_asks script patience at entry entries none some =
    elim none.ended [
      | inl all ↦ let within = slice_get_within script at.step entry.request some.trace.1 in omega (arith, within, all)
      | inr enough ↦ omega (arith, some.trace.0, enough)
    ]

-- the next turn of a session is among the turns of what is left, where it asks again
next_turn : (session : ℕ) (earlier rest : List Entry) (entry : Entry) (entries : List Entry) → entries_of session rest ≡ entry ∷ entries
    → Contains (turns_after earlier rest) (record { turn = length (entries_of session earlier); session = session })
next_turn session earlier [] entry entries is = absurd (cc)
next_turn session earlier (e ∷ rest) entry entries is =
    elim (cases_eq e.session session) [
      | inl same ↦ (0, omega arith, ap (λ (n : ℕ). let t : Turn = record { turn = length (entries_of n earlier); session = n } in t) same)
      | inr other ↦
          let found = next_turn session (earlier ++ e ∷ []) rest entry entries (sym (other_first session e rest other) ∙ is) in
          let T : List Entry → Turn = λ es. record { turn = length es; session = session } in
          let there : Contains (turns_after (earlier ++ e ∷ []) rest) (T (entries_of session earlier)) =
          subst (λ (es : List Entry). Contains (turns_after (earlier ++ e ∷ []) rest) (T es)) (entries_of-other session earlier e other)
          found in
          (suc there.0, omega (arith, there.1), there.2)
    ]

list_cases : {X : Type 0} (xs : List X) → (xs ≡ []) ⊎ ((x : X) × (ys : List X) × (xs ≡ x ∷ ys))
list_cases [] = inl refl
list_cases (x ∷ xs) = inr (x, xs, refl)

one_way : (a b : Turn) → Precedes a b → Precedes b a → ⊥
one_way a b there back =
    elim there [
      | inl less ↦ elim back [ inl more ↦ omega (arith, less, more) | inr same ↦ omega (arith, less, same.0) ]
      | inr same ↦ elim back [ inl more ↦ omega (arith, more, same.0) | inr again ↦ omega (arith, same.1, again.1) ]
    ]

module _ (shift : Shift) where
  -- where a session stands after its entries, and what is left of its trace
  abbrev Whole : List Entry → ℕ → List Entry → Type 0
  Whole earlier session entries =
      IsWholeTrace (script_of shift session) shift.patience (progress_through (begin_at 0) (entries_of session earlier)) entries

  -- what is left of entries in rounds after earlier ones
  record AreLeft (earlier rest : List Entry) : Type 0 where
    whole : (session : ℕ) → IsSession shift session → Whole earlier session (entries_of session rest)
    sessions : All (λ (entry : Entry). IsSession shift entry.session) rest
    rising : AllPairs Precedes (turns_after earlier rest)

  module _ (earlier : List Entry) (entry : Entry) (rest : List Entry) (left : AreLeft earlier (entry ∷ rest)) where
    -- the first entry belongs to a session of the shift, and begins what is left of its trace
    of_shift : IsSession shift entry.session
    of_shift = All-head (λ (e : Entry). IsSession shift e.session) entry rest left.sessions

    begins_trace : Whole earlier entry.session (entry ∷ entries_of entry.session rest)
    begins_trace = subst (Whole earlier entry.session) (own_first entry rest) (left.whole entry.session of_shift)

    -- what is left after the first entry
    left_after : AreLeft (earlier ++ entry ∷ []) rest
    left_after = record {
      whole = λ session within.
          elim (cases_eq entry.session session) [
            | inl same ↦
                let Holds : ℕ → Type 0 = λ n. Whole (earlier ++ entry ∷ []) n (entries_of n rest) in
                let at = progress_through (begin_at 0) (entries_of entry.session earlier) in
                let progress : progress_through (begin_at 0) (entries_of entry.session (earlier ++ entry ∷ [])) ≡ progress_after at
                entry.told =
                ap (progress_through (begin_at 0)) (entries_of-push entry.session earlier entry refl)
                ∙ progress_through-push (begin_at 0) (entries_of entry.session earlier) entry in
                subst Holds same
                (subst (λ (p : Progress). IsWholeTrace (script_of shift entry.session) shift.patience p
                (entries_of entry.session rest)) (sym progress)
                (whole_after (script_of shift entry.session) shift.patience at entry (entries_of entry.session rest) begins_trace))
            | inr other ↦
                subst (λ (es : List Entry). IsWholeTrace (script_of shift session) shift.patience (progress_through (begin_at 0) es)
                (entries_of session rest)) (sym (entries_of-other session earlier entry other))
                (subst (Whole earlier session) (other_first session entry rest other) (left.whole session within))
          ];
      sessions = All-tail (λ (e : Entry). IsSession shift e.session) entry rest left.sessions;
      rising = pairs_tail Precedes _ _ left.rising;
    }

  module _ (earlier : List Entry) where
    -- where another session asks too, its next turn comes after the first entry's
    first_precedes : (e : Entry) (rest : List Entry) (f : Entry) (other : List Entry)
        → AreLeft earlier (e ∷ rest) → AreLeft earlier (f ∷ other) → (e.session ≡ f.session → ⊥)
        → Precedes (record { turn = length (entries_of e.session earlier); session = e.session })
        (record { turn = length (entries_of f.session earlier); session = f.session })
    first_precedes e rest f other h k differ =
        let whole = subst (Whole earlier f.session) (other_first f.session e rest differ)
        (h.whole f.session (of_shift earlier f other k)) in
        elim (list_cases (entries_of f.session rest)) [
          | inl none ↦
              absurd (ended_or_asks (script_of shift f.session) shift.patience _ f (entries_of f.session other)
              (subst (Whole earlier f.session) none whole) (begins_trace earlier f other k))
          | inr some ↦
              let T : List Entry → Turn = λ es. record { turn = length es; session = f.session } in
              let found : Contains (turns_after (earlier ++ e ∷ []) rest) (T (entries_of f.session earlier)) =
              subst (λ (es : List Entry). Contains (turns_after (earlier ++ e ∷ []) rest) (T es))
              (entries_of-other f.session earlier e differ)
              (next_turn f.session (earlier ++ e ∷ []) rest some.0 some.1 some.2) in
              All-contains (Precedes (record { turn = length (entries_of e.session earlier); session = e.session }))
              (turns_after (earlier ++ e ∷ []) rest) (T (entries_of f.session earlier))
              (pairs_head Precedes _ _ h.rising) found
        ]

    -- so the first entries are of one session, which asks one step
    same_session : (e : Entry) (rest : List Entry) (f : Entry) (other : List Entry)
        → AreLeft earlier (e ∷ rest) → AreLeft earlier (f ∷ other) → e.session ≡ f.session
    same_session e rest f other h k =
        elim (cases_eq e.session f.session) [
          | inl same ↦ same
          | inr differ ↦ absurd (one_way _ _ (first_precedes e rest f other h k differ)
              (first_precedes f other e rest k h (λ same. differ (sym same))))
        ]

    same_request : (e : Entry) (rest : List Entry) (f : Entry) (other : List Entry)
        → AreLeft earlier (e ∷ rest) → AreLeft earlier (f ∷ other) → e.request ≡ f.request
    same_request e rest f other h k =
        let Asks : ℕ → Type 0 = λ n.
        slice_get (script_of shift n) (progress_through (begin_at 0) (entries_of n earlier)).step ≡ Some f.request in
        let asked : Asks e.session = subst Asks (sym (same_session e rest f other h k)) (begins_trace earlier f other k).trace.1 in
        same_Some e.request f.request (sym (begins_trace earlier e rest h).trace.1 ∙ asked)

    -- and there is none where the sessions have ended
    none_left : (e : Entry) (rest : List Entry) → AreLeft earlier [] → AreLeft earlier (e ∷ rest) → ⊥
    none_left e rest h k =
        ended_or_asks _ _ _ e (entries_of e.session rest) (h.whole e.session (of_shift earlier e rest k)) (begins_trace earlier e rest k)

-- each entry is told what the hybrid answers at its point, so that the same asks are told the same
same_rest : (cell : Cell) (shift : Shift) (parts : List Part) (earlier : List Entry) (one other : List HybridEntry)
    → IsLegalHybrid cell parts one → IsLegalHybrid cell parts other → AreLeft shift earlier (all_taken one)
    → AreLeft shift earlier (all_taken other) → one ≡ other
same_rest cell shift parts earlier [] [] legal legal' h k = refl
same_rest cell shift parts earlier [] (f ∷ other) legal legal' h k = absurd (none_left shift earlier (taken f) (all_taken other) h k)
same_rest cell shift parts earlier (e ∷ one) [] legal legal' h k = absurd (none_left shift earlier (taken e) (all_taken one) k h)
same_rest cell shift parts earlier (e ∷ one) (f ∷ other) legal legal' h k =
    let session : e.session ≡ f.session = same_session shift earlier (taken e) (all_taken one) (taken f) (all_taken other) h k in
    let request : e.request ≡ f.request = same_request shift earlier (taken e) (all_taken one) (taken f) (all_taken other) h k in
    let told : e.told ≡ f.told = sym legal.0 ∙ ap (reply_h cell parts) request ∙ legal'.0 in
    let same : e ≡ f = λ i. record { session = session i; request = request i; told = told i } in
    let next : IsLegalHybrid cell (state_after_h cell parts e.request) other =
    subst (λ (r : Request). IsLegalHybrid cell (state_after_h cell parts r) other) (sym request) legal'.1 in
    let there : AreLeft shift earlier (taken e ∷ all_taken other) =
    subst (λ (g : HybridEntry). AreLeft shift earlier (taken g ∷ all_taken other)) (sym same) k in
    let tails : one ≡ other =
    same_rest cell shift (state_after_h cell parts e.request) (earlier ++ taken e ∷ []) one other legal.1 next
    (left_after shift earlier (taken e) (all_taken one) h) (left_after shift earlier (taken e) (all_taken other) there) in
    λ i. same i ∷ tails i

pub one_history : (cell : Cell) (parts : List Part) (shift : Shift) (one other : List HybridEntry)
    → IsHybridRoundRobin cell parts shift one → IsHybridRoundRobin cell parts shift other → one ≡ other
one_history cell parts shift one other h k =
    same_rest cell shift parts [] one other h.legal k.legal
    (record { whole = h.rounds.whole; sessions = h.rounds.sessions; rising = h.rounds.rising })
    (record { whole = k.rounds.whole; sessions = k.rounds.sessions; rising = k.rounds.rising })
