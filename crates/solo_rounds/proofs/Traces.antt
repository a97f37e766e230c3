-- One entry more: histories, traces and turns.
use Rattle.std.proofs.Common.{◌≡◌, ◌≢◌, ℕ, ◌<◌, ◌==◌, Bool, true, false, cond, Some, List}
use Rattle.std.proofs.Common.{[], ◌∷◌, ◌++◌, length, slice_get, refl, ap, ◌∙◌, append-nil}
use Rattle.std.proofs.lemmas.Bool.{or_parts, or_from, cond-true, cond-false, eq-eqb, ne_eqb}
use Rattle.std.proofs.lemmas.List.{append_assoc}
use Rattle.std.proofs.lemmas.List.Elements.{filter-append}
use Rattle.cell_base.specs.declared.cells.Cell.{Cell}
use Rattle.cell_base.specs.declared.requests.Part.{Part}
use Rattle.cell_base.specs.declared.requests.Request.{Request}
use Rattle.cell_base.specs.declared.requests.Reply.{Reply}
use Rattle.cell_base.specs.declared.requests.Told.{Told}
use Rattle.cell_base.specs.declared.requests.Told.TheVariants.{Answered, Halted}
use Rattle.cell_base.specs.declared.shifts.Entry.{Entry}
use Rattle.cell_base.specs.Outcomes.{reply_to}
use Rattle.cell_base.specs.Histories.{IsLegal, IsToldRightly, after, state_after_entry, entries_of, was_halted}
use Rattle.cell_base.specs.Scripts.{Progress, progress_after, progress_through, IsTrace, IsEndOfHalt, holds_halt}
use Rattle.cell_base.specs.Rounds.{turns_after}

abbrev pub answered : ℕ → Request → Reply → Entry
answered session request reply = record { session = session; request = request; told = Answered reply }

pub entries_of-push : (session : ℕ) (entries : List Entry) (entry : Entry) → entry.session ≡ session
    → entries_of session (entries ++ entry ∷ []) ≡ entries_of session entries ++ entry ∷ []
entries_of-push session entries entry same =
    filter-append (λ (e : Entry). e.session == session) entries (entry ∷ [])
    ∙ ap (λ es. entries_of session entries ++ es) (cond-true _ _ _ (eq-eqb entry.session session same))

pub entries_of-other : (session : ℕ) (entries : List Entry) (entry : Entry) → entry.session ≢ session
    → entries_of session (entries ++ entry ∷ []) ≡ entries_of session entries
entries_of-other session entries entry other =
    filter-append (λ (e : Entry). e.session == session) entries (entry ∷ [])
    ∙ ap (λ es. entries_of session entries ++ es) (cond-false _ _ _ (ne_eqb entry.session session other)) ∙ append-nil _

pub holds_halt-push : (entries : List Entry) (session : ℕ) (request : Request) (reply : Reply) → holds_halt entries ≡ false
    → holds_halt (entries ++ answered session request reply ∷ []) ≡ false
holds_halt-push [] session request reply unhalted = refl
holds_halt-push (e ∷ es) session request reply unhalted =
    let both = or_parts (was_halted e.told) (holds_halt es) unhalted in
    or_from (was_halted e.told) (holds_halt (es ++ answered session request reply ∷ [])) both.0
    (holds_halt-push es session request reply both.1)

pub holds_halt-entries_of : (session : ℕ) (entries : List Entry) → holds_halt entries ≡ false
    → holds_halt (entries_of session entries) ≡ false
holds_halt-entries_of session [] unhalted = refl
holds_halt-entries_of session (e ∷ es) unhalted =
    let both = or_parts (was_halted e.told) (holds_halt es) unhalted in
    go (e.session == session) both.0 (holds_halt-entries_of session es both.1)
  where
    go : (b : Bool) → was_halted e.told ≡ false → holds_halt (entries_of session es) ≡ false
        → holds_halt (cond b (e ∷ entries_of session es) (entries_of session es)) ≡ false
    go true first rest = or_from (was_halted e.told) (holds_halt (entries_of session es)) first rest
    go false first rest = rest

end_of_halt : (told : Told) (later : List Entry) → was_halted told ≡ false → IsEndOfHalt told later
end_of_halt (Answered reply) later unhalted = tt
end_of_halt Halted later unhalted = cc

-- nothing follows the last entry
end_alone : (told : Told) → IsEndOfHalt told []
end_alone (Answered reply) = tt
end_alone Halted = refl

-- a trace goes on by an ask of the step where it stands
pub IsTrace-push : (script : List Request) (patience : ℕ) (at : Progress) (entries : List Entry) (session : ℕ)
    (request : Request) (told : Told)
    → holds_halt entries ≡ false
    → IsTrace script patience at entries
    → (progress_through at entries).refusals < patience
    → slice_get script (progress_through at entries).step ≡ Some request
    → IsTrace script patience at (entries ++ record { session = session; request = request; told = told } ∷ [])
IsTrace-push script patience at [] session request told unhalted trace patient step = (patient, step, end_alone told, tt)
IsTrace-push script patience at (e ∷ es) session request told unhalted trace patient step =
    let both = or_parts (was_halted e.told) (holds_halt es) unhalted in (
      trace.0,
      trace.1,
      end_of_halt e.told _ both.0,
      IsTrace-push script patience (progress_after at e.told) es session request told both.1 trace.3 patient step,
    )

told_rightly : (cell : Cell) (parts : List Part) (request : Request) (told : Told) (later more : List Entry)
    → was_halted told ≡ false → IsToldRightly cell parts request told later → IsToldRightly cell parts request told more
told_rightly cell parts request (Answered reply) later more unhalted right = right
told_rightly cell parts request Halted later more unhalted right = cc

pub IsLegal-push : (cell : Cell) (parts : List Part) (entries : List Entry) (session : ℕ) (request : Request)
    → holds_halt entries ≡ false
    → IsLegal cell parts entries
    → IsLegal cell parts (entries ++ answered session request (reply_to cell (after cell parts entries) request) ∷ [])
IsLegal-push cell parts [] session request unhalted legal = (refl, tt)
IsLegal-push cell parts (e ∷ es) session request unhalted legal =
    let both = or_parts (was_halted e.told) (holds_halt es) unhalted in (
      told_rightly cell parts e.request e.told es _ both.0 legal.0,
      IsLegal-push cell (state_after_entry cell parts e.request e.told) es session request both.1 legal.1,
    )

pub turns_after-push : (earlier entries : List Entry) (entry : Entry)
    → turns_after earlier (entries ++ entry ∷ []) ≡
    turns_after earlier entries ++ record { turn = length (entries_of entry.session (earlier ++ entries)); session = entry.session } ∷ []
turns_after-push earlier [] entry = rw append-nil refl
turns_after-push earlier (e ∷ es) entry =
    ap (λ ts. record { turn = length (entries_of e.session earlier); session = e.session } ∷ ts)
    (turns_after-push (earlier ++ e ∷ []) es entry
    ∙ ap (λ all. turns_after (earlier ++ e ∷ []) es ++ record {
      turn =
          length (entries_of entry.session all);
      session = entry.session;
    } ∷ []) (append_assoc earlier (e ∷ []) es))
