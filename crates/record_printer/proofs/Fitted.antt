-- The requests of a shift's history fit the cell: each is a step of a session's script.
use Rattle.std.proofs.Common.{◌≡◌, ◌⊎◌, inl, inr, ℕ, ◌-◌, Bool, true, false, cond, Option, Some}
use Rattle.std.proofs.Common.{None, List, [], ◌∷◌, Contains, All, refl, sym, ap, ◌∙◌, subst}
use Rattle.std.specs.Prelude.{slice_get, unwrap_or, ◌==◌}
use Rattle.std.specs.List.{filter}
use Rattle.std.proofs.lemmas.Bool.{eq-eqb, true≢false}
use Rattle.std.proofs.lemmas.List.Elements.{All-nil, All-cons, All-contains}
use Rattle.cell_base.specs.declared.cells.Cell.{Cell}
use Rattle.cell_base.specs.declared.requests.Request.{Request}
use Rattle.cell_base.specs.declared.shifts.Entry.{Entry}
use Rattle.cell_base.specs.declared.shifts.Shift.{Shift}
use Rattle.cell_base.specs.Fits.{RequestFits, ShiftFits}
use Rattle.cell_base.specs.Histories.{entries_of}
use Rattle.cell_base.specs.Rounds.{IsSession}
use Rattle.cell_base.specs.Scripts.{Progress, IsTrace, progress_after, script_of}
use Rattle.policy_laws.proofs.Lists.{All-slice_get, All-from_Contains, Contains-head, Contains-tail, Contains-none, Contains-cases}

-- what passes is kept, after an element that may be kept too
kept_after : {X : Type 0} (p : X → Bool) (y x : X) (ys : List X) (b : Bool) → p y ≡ b → p x ≡ true → (y ≡ x) ⊎ Contains (filter p ys) x
    → Contains (cond b (y ∷ filter p ys) (filter p ys)) x
kept_after p y x ys true kept passes (inl is) = subst (Contains (y ∷ filter p ys)) is (Contains-head y (filter p ys))
kept_after p y x ys true kept passes (inr behind) = Contains-tail y x (filter p ys) behind
kept_after p y x ys false dropped passes (inl is) = absurd (true≢false (sym passes ∙ ap p (sym is) ∙ dropped))
kept_after p y x ys false dropped passes (inr behind) = behind

pub Contains-filter : {X : Type 0} (p : X → Bool) (xs : List X) (x : X) → Contains xs x → p x ≡ true → Contains (filter p xs) x
Contains-filter p [] x contains passes = absurd (Contains-none x contains)
Contains-filter p (y ∷ ys) x contains passes =
    kept_after p y x ys (p y) refl passes
    (elim (Contains-cases y x ys contains) [ inl is ↦ inl is | inr behind ↦ inr (Contains-filter p ys x behind passes) ])

module _ (cell : Cell) where
  -- a trace asks steps of its script
  trace_fits : (script : List Request) (patience : ℕ) (at : Progress) (entries : List Entry) → All (RequestFits cell) script
      → IsTrace script patience at entries → All (λ (entry : Entry). RequestFits cell entry.request) entries
  trace_fits script patience at [] fit trace = All-nil _
  trace_fits script patience at (entry ∷ entries) fit trace =
      All-cons (λ (e : Entry). RequestFits cell e.request) entry entries
      (All-slice_get (RequestFits cell) script at.step entry.request fit trace.1)
      (trace_fits script patience (progress_after at entry.told) entries fit trace.3)

  script_fits : (shift : Shift) (session : ℕ) → ShiftFits cell shift → All (RequestFits cell) (script_of shift session)
  script_fits shift session fits = at (slice_get shift.scripts (session - 1)) refl
    where
      at : (o : Option (List Request)) → slice_get shift.scripts (session - 1) ≡ o → All (RequestFits cell) (unwrap_or o [])
      at None is = All-nil _
      at (Some script) is = All-slice_get (All (RequestFits cell)) shift.scripts (session - 1) script fits.requests is

  -- a history of sessions that ask steps of their scripts
  module _ (shift : Shift) (history : List Entry) (shift_fits : ShiftFits cell shift) (first : ℕ → Progress)
      (sessions : All (λ (entry : Entry). IsSession shift entry.session) history)
      (traces : (session : ℕ) → IsSession shift session
      → IsTrace (script_of shift session) shift.patience (first session) (entries_of session history)) where
    asked : (entry : Entry) → Contains history entry → RequestFits cell entry.request
    asked entry contains =
        let session : ℕ = entry.session in
        let is : IsSession shift session = All-contains (λ (e : Entry). IsSession shift e.session) history entry sessions contains in
        All-contains (λ (e : Entry). RequestFits cell e.request) (entries_of session history) entry
        (trace_fits (script_of shift session) shift.patience (first session) (entries_of session history)
        (script_fits shift session shift_fits) (traces session is))
        (Contains-filter (λ (e : Entry). e.session == session) history entry contains (eq-eqb session session refl))

    pub requests_fit : All (λ (entry : Entry). RequestFits cell entry.request) history
    requests_fit = All-from_Contains (λ (entry : Entry). RequestFits cell entry.request) history asked
