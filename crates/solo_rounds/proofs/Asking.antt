-- A session that goes on asks its present step, and the rounds are under way after its ask.
use Rattle.std.proofs.Common.{◌≡◌, ℕ, ◌+◌, ◌<◌, Some, List, [], ◌∷◌, ◌++◌, length, slice_get, slice_set, refl}
use Rattle.std.proofs.Common.{ap, ◌∙◌, sym, subst, inr, ⊎_elim, arith, get_or-set_same, get_or-set_other}
use Rattle.std.proofs.lemmas.Bool.{cases_eq}
use Rattle.std.proofs.lemmas.Bool.Decides.{nat_tests}
use Rattle.std.proofs.lemmas.List.{length_push}
use Rattle.std.proofs.lemmas.List.Elements.{All-push, All-weaker}
use Rattle.std.proofs.lemmas.List.Quantifiers.{all_pairs_push}
use Rattle.cell_base.specs.declared.cells.Cell.{Cell}
use Rattle.cell_base.specs.declared.requests.Part.{Part}
use Rattle.cell_base.specs.declared.requests.Request.{Request}
use Rattle.cell_base.specs.declared.requests.Reply.{Reply}
use Rattle.cell_base.specs.declared.requests.Told.TheVariants.{Answered}
use Rattle.cell_base.specs.declared.shifts.Entry.{Entry}
use Rattle.cell_base.specs.declared.shifts.Shift.{Shift}
use Rattle.cell_base.specs.Outcomes.{reply_to, state_after}
use Rattle.cell_base.specs.Histories.{entries_of}
use Rattle.cell_base.specs.Scripts.{HasEnded, Progress, begin_at, progress_after, script_of}
use Rattle.cell_base.specs.Rounds.{Precedes, turns_after, IsSession}
use Rattle.solo_rounds.specs.Underway.{progress_at, HasEndedAt, IsAtTurn, AreUnderway, IsUnderway}
use Rattle.cell_base.proofs.Histories.{after-push, progress_through-push}
use Rattle.solo_rounds.proofs.Traces.{answered, entries_of-push, entries_of-other, holds_halt-push, holds_halt-entries_of}
use Rattle.solo_rounds.proofs.Traces.{IsTrace-push, IsLegal-push, turns_after-push}
use Rattle.solo_rounds.proofs.Turns.{later_turn, had_turn}
use Rattle.solo_rounds.proofs.Counting.{script_at}
use Rattle.solo_rounds.proofs.Going.{GoesOn, patient}

module _ (shift : Shift) (entries : List Entry) (progress : List Progress) (turn done : ℕ) (script : List Request) (spare : ℕ)
    (at : Progress) (goes : GoesOn shift progress spare done script at) (underway : AreUnderway shift entries progress turn done)
    (request : Request) (reply : Reply) (next : Progress) (step : slice_get script at.step ≡ Some request)
    (told : next ≡ progress_after at (Answered reply)) where
  abbrev entry : Entry
  entry = answered (done + 1) request reply

  abbrev more : List Entry
  more = entries ++ answered (done + 1) request reply ∷ []

  same_script : script_of shift (done + 1) ≡ script
  same_script = script_at shift done script goes.is

  going : HasEndedAt shift progress done → ⊥
  going ended =
      goes.going
      (subst (λ (p : Progress). HasEnded script shift.patience p) goes.stands
      (subst (λ s. HasEnded s shift.patience (progress_at progress done)) same_script ended))

  counted : length (entries_of (done + 1) entries) ≡ turn
  counted = let asks = (underway.each done goes.within).asked going in grind (arith, nat_tests)

  -- the session that asked
  here : IsAtTurn shift more (slice_set progress done next) turn (done + 1) done
  here =
      let stood = underway.each done goes.within in
      let behind : entries_of (done + 1) more ≡ entries_of (done + 1) entries ++ answered (done + 1) request reply ∷ [] =
      entries_of-push (done + 1) entries (answered (done + 1) request reply) refl in
      let there : progress_at (slice_set progress done next) done ≡ next = get_or-set_same progress done next _ goes.room in
      let stands = stood.stands ∙ goes.stands in
      let one_more = length_push (entries_of (done + 1) entries) (answered (done + 1) request reply) in
      record {
        trace = rw behind
            (IsTrace-push (script_of shift (done + 1)) shift.patience (begin_at 0) (entries_of (done + 1) entries)
            (done + 1) request (Answered reply)
            (holds_halt-entries_of (done + 1) entries underway.unhalted) stood.trace
            (subst (λ (p : Progress). p.refusals < shift.patience) (sym stands) (patient goes))
            (subst (λ (p : Progress). slice_get (script_of shift (done + 1)) p.step ≡ Some request) (sym stands)
            (subst (λ s. slice_get s at.step ≡ Some request) (sym same_script) step)));
        stands = rw (behind, there)
            (progress_through-push (begin_at 0) (entries_of (done + 1) entries) (answered (done + 1) request reply)
            ∙ ap (λ p. progress_after p (Answered reply)) stands ∙ sym told);
        asked = λ still. rw behind (let before = counted in grind (arith, nat_tests));
      }

  -- the others
  elsewhere : (k : ℕ) → k < length shift.scripts → (k ≡ done → ⊥) → IsAtTurn shift more (slice_set progress done next) turn (done + 1) k
  elsewhere k within other =
      let stood = underway.each k within in
      let behind : entries_of (k + 1) more ≡ entries_of (k + 1) entries =
      entries_of-other (k + 1) entries (answered (done + 1) request reply) (λ same. other (omega arith)) in
      let there : progress_at (slice_set progress done next) k ≡ progress_at progress k =
      get_or-set_other progress done k next _ other in
      record {
        trace = rw behind stood.trace;
        stands = rw (behind, there) stood.stands;
        asked = λ still. rw (behind, had_turn k done other) (stood.asked (λ ended. still (rw there ended)));
      }

  pub asked_once : AreUnderway shift more (slice_set progress done next) turn (done + 1)
  asked_once = record {
    unhalted = holds_halt-push entries (done + 1) request reply underway.unhalted;
    each = λ k within. ⊎_elim
        (λ same. subst (λ j. IsAtTurn shift more (slice_set progress done next) turn (done + 1) j) (sym same) here)
        (elsewhere k within) (cases_eq k done);
    sessions = All-push (λ entry. IsSession shift entry.session) entries _ underway.sessions (omega arith, omega (arith, goes.within));
    rising = rw (turns_after-push [] entries entry, counted)
        (all_pairs_push Precedes (turns_after [] entries) _ underway.rising underway.earlier);
    earlier = rw (turns_after-push [] entries entry, counted)
        (All-push (λ t. Precedes t (record { turn = turn; session = done + 1 + 1 })) (turns_after [] entries) _
        (All-weaker _ _ (λ t. later_turn t turn (done + 1)) _ underway.earlier) (inr (refl, omega arith)));
  }

-- the same with the reply of a core
pub asks : (shift : Shift) (cell : Cell) (start now : List Part) (history : List Entry) (progress : List Progress) (turn done : ℕ)
    (script : List Request) (spare : ℕ) (at : Progress) → GoesOn shift progress spare done script at
    → IsUnderway shift cell start now history progress turn done → (request : Request) (next : Progress)
    → slice_get script at.step ≡ Some request → next ≡ progress_after at (Answered (reply_to cell now request))
    → IsUnderway shift cell start (state_after cell now request)
    (history ++ answered (done + 1) request (reply_to cell now request) ∷ []) (slice_set progress done next) turn (done + 1)
asks shift cell start now history progress turn done script spare at goes underway request next step told = record {
  legal = rw underway.state (IsLegal-push cell start history (done + 1) request underway.rounds.unhalted underway.legal);
  state = ap (λ parts. state_after cell parts request) underway.state
      ∙ sym (after-push cell start history (answered (done + 1) request (reply_to cell now request)));
  rounds = asked_once shift history progress turn done script spare at goes underway.rounds request (reply_to cell now request) next
      step told;
}
