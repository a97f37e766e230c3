-- A session that goes on asks its present step, and ends by a reply or by a fault.
use Rattle.std.proofs.Common.{◌≡◌, ℕ, ◌+◌, ◌-◌, ◌*◌, ◌<◌, ◌≤◌, Bool, true, false, ◌||◌, ◌⊎◌, cond, Some, List, [], ◌∷◌}
use Rattle.std.proofs.Common.{◌++◌, length, slice_get, Ok, Err, refl, ap, ◌∙◌, sym, subst, inl, inr, arith, append-nil}
use Rattle.std.specs.List.{All, position_from}
use Rattle.std.proofs.lemmas.List.Elements.{All-nil, All-cons}
use Rattle.std.proofs.lemmas.Iterator.Adapters.{position_from-zero}
use Rattle.std.proofs.lemmas.List.{append_assoc}
use mathlib.Core.List.{IsPrefix}
use Rattle.cell_base.specs.declared.requests.Request.{Request}
use Rattle.cell_base.specs.declared.requests.Reply.{Reply}
use Rattle.cell_base.specs.declared.requests.Told.{Told}
use Rattle.cell_base.specs.declared.requests.Told.TheVariants.{Answered}
use Rattle.cell_base.specs.declared.requests.Told.TheVariants as told
use Rattle.cell_base.specs.declared.shifts.Entry.{Entry}
use Rattle.cell_base.specs.Scripts.{Progress, progress_after, progress_through, HasEnded, IsTrace, holds_halt}
use Rattle.durable_cell.specs.declared.fault.AskFault.{AskFault}
use Rattle.durable_cell.specs.declared.fault.AskFault.TheVariants.{Halted, Full, Device}
use Rattle.durable_cell.specs.Asked.{entry, is_halt}
use Rattle.cell_lock.specs.Passes.{LockId, PassState, KeepsName, AddsEntry, ArePassesNumbered, Asked}
use Rattle.cell_sessions.specs.Sessions.{HasAsked, HasRun}
use Rattle.solo_rounds.specs.Underway.{script_asks_left}
use Rattle.cell_base.proofs.Histories.{progress_through-push}
use Rattle.solo_rounds.proofs.Traces.{holds_halt-push, IsTrace-push}

prefix_on : (xs ys zs : List Entry) → IsPrefix xs ys → IsPrefix ys zs → IsPrefix xs zs
prefix_on xs ys zs a b = (a.0 ++ b.0, sym (append_assoc xs a.0 b.0) ∙ (ap (λ (l : List Entry). l ++ b.0) a.1 ∙ b.1))

-- a history that halts somewhere holds a halt
halts : (n at : ℕ) (entries : List Entry) → position_from is_halt n entries ≡ Some at → holds_halt entries ≡ true
halts n at [] found = absurd (cc)
halts n at (e ∷ es) found = go (is_halt e) (halts (n + 1) at es) found
  where
    go : (b : Bool) → (position_from is_halt (n + 1) es ≡ Some at → holds_halt es ≡ true)
        → cond b (Some n) (position_from is_halt (n + 1) es) ≡ Some at → (b || holds_halt es) ≡ true
    go true later found = refl
    go false later found = later found

halts_last : (entries : List Entry) (session : ℕ) (request : Request) → holds_halt (entries ++ entry session request told.Halted ∷ [])
    ≡ true
halts_last [] session request = refl
halts_last (e ∷ es) session request = go (is_halt e) (halts_last es session request)
  where
    go : (b : Bool) → holds_halt (es ++ entry session request told.Halted ∷ []) ≡ true
        → (b || holds_halt (es ++ entry session request told.Halted ∷ [])) ≡ true
    go true later = refl
    go false later = later

module _ {D : Type 0} (script : List Request) (patience : ℕ) (start : Progress) where
  -- before the first ask
  pub unasked : (p : PassState D) → HasAsked script patience start start p p
  unasked p = record {
    name = record { lock = refl; number = refl };
    seen = ([], append-nil p.seen);
    entries = [];
    mine = sym (append-nil p.mine);
    trace = tt;
    unhalted = refl;
    stands = refl;
  }

  -- a session that has ended has run
  pub ended : (at : Progress) (p q : PassState D) → HasAsked script patience start at p q → HasEnded script patience at
      → HasRun script patience start p q
  ended at p q asked ends = record {
    name = asked.name;
    seen = asked.seen;
    entries = asked.entries;
    mine = asked.mine;
    trace = asked.trace;
    ends = inl record {
      trace = asked.trace;
      unhalted = asked.unhalted;
      ended = subst (λ x. HasEnded script patience x) (sym asked.stands) ends;
    };
  }

  -- a pass of a session that goes on, and what it asks next
  pub record Asks (at : Progress) (p q r : PassState D) (request : Request) : Type 0 where
    pub asked : HasAsked script patience start at p q
    pub patient : at.refusals < patience
    pub step : slice_get script at.step ≡ Some request
    pub name : KeepsName q r
    pub seen : IsPrefix q.seen r.seen

  module _ {at : Progress} {p q r : PassState D} {request : Request} (asks : Asks at p q r request) where
    now_name : KeepsName p r
    now_name = record { lock = asks.name.lock ∙ asks.asked.name.lock; number = asks.name.number ∙ asks.asked.name.number }

    now_seen : IsPrefix p.seen r.seen
    now_seen = prefix_on p.seen q.seen r.seen asks.asked.seen asks.seen

    now_mine : (told : Told) → AddsEntry q r (entry q.number request told)
        → r.mine ≡ p.mine ++ (asks.asked.entries ++ entry q.number request told ∷ [])
    now_mine told adds =
        adds.own ∙ (ap (λ (l : List Entry). l ++ entry q.number request told ∷ []) asks.asked.mine
        ∙ append_assoc p.mine asks.asked.entries (entry q.number request told ∷ []))

    now_trace : (told : Told) → IsTrace script patience start (asks.asked.entries ++ entry q.number request told ∷ [])
    now_trace told =
        IsTrace-push script patience start asks.asked.entries q.number request told asks.asked.unhalted asks.asked.trace
        (subst (λ (x : Progress). x.refusals < patience) (sym asks.asked.stands) asks.patient)
        (subst (λ (x : Progress). slice_get script x.step ≡ Some request) (sym asks.asked.stands) asks.step)

    now_stands : (told : Told) → progress_through start (asks.asked.entries ++ entry q.number request told ∷ []) ≡ progress_after at told
    now_stands told =
        progress_through-push start asks.asked.entries (entry q.number request told)
        ∙ ap (λ x. progress_after x told) asks.asked.stands

    -- it is answered with a reply
    pub answered : (reply : Reply) (next : Progress) → Asked q request (Ok reply) r → next ≡ progress_after at (Answered reply)
        → HasAsked script patience start next p r
    answered reply next adds goes = record {
      name = now_name;
      seen = now_seen;
      entries = asks.asked.entries ++ entry q.number request (Answered reply) ∷ [];
      mine = now_mine (Answered reply) adds;
      trace = now_trace (Answered reply);
      unhalted = holds_halt-push asks.asked.entries q.number request reply asks.asked.unhalted;
      stands = now_stands (Answered reply) ∙ sym goes;
    }

    unchanged : (HasEnded script patience at → ⊥) → r.mine ≡ q.mine
        → (holds_halt r.seen ≡ true) ⊎ (length r.seen ≡ p.lock.opening.limit) → HasRun script patience start p r
    unchanged going same stopped = record {
      name = now_name;
      seen = now_seen;
      entries = asks.asked.entries;
      mine = same ∙ asks.asked.mine;
      trace = asks.asked.trace;
      ends = inr record {
        going = λ ends. going (subst (λ x. HasEnded script patience x) asks.asked.stands ends);
        stopped = stopped;
      };
    }

    -- it is answered a fault
    pub faulted : (fault : AskFault) → (HasEnded script patience at → ⊥) → Asked q request (Err fault) r
        → HasRun script patience start p r
    faulted (Halted n) going said =
        unchanged going said.1 (inl (halts 0 n r.seen (sym (position_from-zero is_halt r.seen) ∙ said.0)))
    faulted (Full len) going said =
        unchanged going said.3
        (inr (sym said.1 ∙ (said.2 ∙ ap (λ (lock : LockId D). lock.opening.limit) asks.asked.name.lock)))
    faulted (Device n) going said =
        let adds : AddsEntry q r (entry q.number request told.Halted) = said.0 in
        record {
          name = now_name;
          seen = now_seen;
          entries = asks.asked.entries ++ entry q.number request told.Halted ∷ [];
          mine = now_mine told.Halted adds;
          trace = now_trace told.Halted;
          ends = inr record {
            going = λ ends. going (subst (λ x. HasEnded script patience x) (now_stands told.Halted) ends);
            stopped = inl (ap holds_halt adds.ends ∙ halts_last adds.before q.number request);
          };
        }

distributes : (a b c : ℕ) → (a + b) * c ≡ a * c + b * c
distributes a b c = omega arith

-- no more asks are left than steps times patience
pub script_asks_left-le : (script : List Request) (patience : ℕ) (at : Progress) → at.step ≤ length script
    → script_asks_left patience script at ≤ length script * patience
script_asks_left-le script patience at within =
    let parts : length script ≡ (length script - at.step) + at.step = omega arith in
    let whole : length script * patience ≡ (length script - at.step) * patience + at.step * patience =
    ap (λ m. m * patience) parts ∙ distributes (length script - at.step) at.step patience in
    omega (arith, whole)

-- a script that is no longer than all has no more asks
pub asks-le : (steps all patience : ℕ) → steps ≤ all → steps * patience ≤ all * patience
asks-le steps all patience few =
    let parts : all ≡ (all - steps) + steps = omega arith in
    let whole : all * patience ≡ (all - steps) * patience + steps * patience =
    ap (λ m. m * patience) parts ∙ distributes (all - steps) steps patience in
    omega (arith, whole)

-- passes that are numbered are of the lock
pub of_lock : {D : Type 0} (lock : LockId D) (first : ℕ) (passes : List (PassState D)) → ArePassesNumbered lock first passes
    → All (λ (p : PassState D). p.lock ≡ lock) passes
of_lock {D} lock first [] numbered = All-nil (λ (p : PassState D). p.lock ≡ lock)
of_lock {D} lock first (p ∷ ps) numbered =
    All-cons (λ (q : PassState D). q.lock ≡ lock) p ps numbered.0 (of_lock lock (first + 1) ps numbered.2)
