-- A shift in rounds on the empty cell: each entry fits and is decided, none of them halted, and its plan drains the state after it.
use Rattle.std.proofs.Common.{◌≡◌, inl, inr, ℕ, false, List, [], ◌∷◌, ◌++◌, Contains, All, refl, ap, ◌∙◌, subst}
use Rattle.std.specs.Prelude.{◌==◌, Bool, ◌||◌}
use Rattle.std.proofs.lemmas.Bool.{eq-eqb, or_parts}
use Rattle.std.proofs.lemmas.List.Elements.{All-head, All-tail, All-contains, Contains-append_right}
use Rattle.cell_base.specs.declared.cells.Cell.{Cell}
use Rattle.cell_base.specs.declared.shifts.Entry.{Entry}
use Rattle.cell_base.specs.declared.shifts.Shift.{Shift}
use Rattle.cell_base.specs.Fits.{CellFits, RequestFits, ShiftFits}
use Rattle.cell_base.specs.Histories.{IsLegal, after, entries_of, was_halted}
use Rattle.cell_base.specs.Plans.{Drains, plan_of}
use Rattle.cell_base.specs.Rounds.{IsSession, IsRoundRobin}
use Rattle.cell_base.specs.Scripts.{begin_at, holds_halt}
use Rattle.admission_core.specs.CoreState.{CoreState}
use Rattle.policy_laws.proofs.Lists.{All-from_Contains, Contains-head, Contains-none, Contains-cases}
use Rattle.admission_core.specs.DecidedHistories.{AreDecided}
use Rattle.admission_core.proofs.DecidedHistories.{are_decided}
use Rattle.policy_laws.proofs.Plans.{plan_law}
use Rattle.policy_laws.proofs.States.{IsAdmitted-empty}
use Rattle.record_text.specs.Fitting.{EntryFits}
use Rattle.record_printer.proofs.Fitting.{admitted_after, entries_fit}
use Rattle.solo_rounds.specs.Asking.{AreAsking}
use Rattle.solo_rounds.specs.Standing.{Standing}
use Rattle.solo_rounds.proofs.Ends.{each_trace}
use Rattle.record_printer.proofs.Fitted.{Contains-filter, requests_fit}

-- where no entry is halted, this one isn't
halted_of : (entries : List Entry) (entry : Entry) → holds_halt entries ≡ false → Contains entries entry → was_halted entry.told ≡ false
halted_of [] entry unhalted contains = absurd (Contains-none entry contains)
halted_of (first ∷ entries) entry unhalted contains =
    let parts = or_parts (was_halted first.told) (holds_halt entries) unhalted in
    elim (Contains-cases first entry entries contains) [
      | inl is ↦ subst (λ (e : Entry). was_halted e.told ≡ false) is parts.0
      | inr behind ↦ halted_of entries entry parts.1 behind
    ]

none_halted : (entries : List Entry) → All (λ (entry : Entry). was_halted entry.told ≡ false) entries → holds_halt entries ≡ false
none_halted [] all = refl
none_halted (entry ∷ entries) all =
    let Going : Entry → Type 0 = λ e. was_halted e.told ≡ false in
    let here : was_halted entry.told ≡ false = All-head Going entry entries all in
    let later : holds_halt entries ≡ false = none_halted entries (All-tail Going entry entries all) in
    ap (λ (b : Bool). b || holds_halt entries) here ∙ later

module _ (cell : Cell) (fits : CellFits cell) (shift : Shift) (shift_fits : ShiftFits cell shift) where
  -- the entry that was asked last fits
  pub last_fits : (core : CoreState) (history : List Entry) (entry : Entry) (at : Standing) → core.cell ≡ cell
      → AreAsking shift core [] (history ++ entry ∷ []) at → EntryFits cell entry
  last_fits core history entry at on asking =
      let rounds = asking.underway.rounds in
      let entries : List Entry = history ++ entry ∷ [] in
      let requests = requests_fit cell shift entries shift_fits (λ session. begin_at 0) rounds.sessions
      (each_trace shift entries at.progress asking.turn at.next rounds) in
      All-contains (EntryFits cell) entries entry
      (entries_fit cell fits [] entries (IsAdmitted-empty cell)
      (subst (λ (c : Cell). IsLegal c [] entries) on asking.underway.legal) requests)
      (Contains-append_right history (entry ∷ []) entry (Contains-head entry []))

module _ (cell : Cell) (fits : CellFits cell) (shift : Shift) (history : List Entry) (shift_fits : ShiftFits cell shift)
    (rounds : IsRoundRobin cell [] shift history) where
  requests : All (λ (entry : Entry). RequestFits cell entry.request) history
  requests =
      requests_fit cell shift history shift_fits (λ session. begin_at 0) rounds.sessions (λ session is. (rounds.whole session is).trace)

  pub rounds_decided : AreDecided cell [] history
  rounds_decided = are_decided cell fits [] history (IsAdmitted-empty cell) rounds.legal requests

  pub rounds_drain : let behind = after cell [] history in Drains cell behind (plan_of cell behind)
  rounds_drain =
      (plan_law cell fits (after cell [] history) (admitted_after cell fits [] history (IsAdmitted-empty cell) requests)).drains

  pub rounds_unhalted : holds_halt history ≡ false
  rounds_unhalted =
      none_halted history
      (All-from_Contains (λ (entry : Entry). was_halted entry.told ≡ false) history (λ entry contains.
      let session : ℕ = entry.session in
      let is = All-contains (λ (e : Entry). IsSession shift e.session) history entry rounds.sessions contains in
      halted_of (entries_of session history) entry (rounds.whole session is).unhalted
      (Contains-filter (λ (e : Entry). e.session == session) history entry contains (eq-eqb session session refl))))
