-- Rounds begin with no entry, and are whole where all sessions have ended.
use Rattle.std.proofs.Common.{◌≡◌, ℕ, zero, suc, ◌+◌, ◌<◌, List, [], length, slice_index_or, replicate, refl, sym, subst, arith, add-one}
use Rattle.std.proofs.lemmas.Bool.Decides.{nat_tests}
use Rattle.std.proofs.lemmas.List.Elements.{All-nil}
use Rattle.cell_base.specs.declared.cells.Cell.{Cell}
use Rattle.cell_base.specs.declared.requests.Part.{Part}
use Rattle.cell_base.specs.declared.shifts.Entry.{Entry}
use Rattle.cell_base.specs.declared.shifts.Shift.{Shift}
use Rattle.cell_base.specs.Histories.{entries_of}
use Rattle.cell_base.specs.Scripts.{Progress, begin_at, HasEnded, script_of, IsTrace, IsWholeTrace}
use Rattle.cell_base.specs.Rounds.{IsSession, IsRoundRobin}
use Rattle.solo_rounds.specs.Underway.{AreUnderway, HaveEnded, IsUnderway}
use Rattle.solo_rounds.proofs.Traces.{holds_halt-entries_of}

pub same_everywhere : {X : Type 0} (n k : ℕ) (x : X) → slice_index_or (replicate n x) k x ≡ x
same_everywhere zero k x = refl
same_everywhere (suc n) zero x = refl
same_everywhere (suc n) (suc k) x = same_everywhere n k x

-- no session has asked yet
pub none_asked : (shift : Shift) (first : Progress) → first ≡ begin_at 0 → AreUnderway shift [] (replicate 64 first) 0 0
none_asked shift first is = record {
  unhalted = refl;
  each = λ k within. rw is
      (record { trace = tt; stands = sym (same_everywhere 64 k (begin_at 0)); asked = λ going. grind (arith, nat_tests) });
  sessions = All-nil _;
  rising = λ i j d before within. absurd (omega arith);
  earlier = All-nil _;
}

pub begin : (shift : Shift) (cell : Cell) (start : List Part) (first : Progress) → first ≡ begin_at 0
    → IsUnderway shift cell start start [] (replicate 64 first) 0 0
begin shift cell start first is = record { legal = tt; state = refl; rounds = none_asked shift first is }

module _ (shift : Shift) (entries : List Entry) (progress : List Progress) (turn done : ℕ)
    (underway : AreUnderway shift entries progress turn done) where
  -- the entries of each session are asks of its script
  pub each_trace : (session : ℕ) → IsSession shift session
      → IsTrace (script_of shift session) shift.patience (begin_at 0) (entries_of session entries)
  each_trace zero bounds = absurd (omega arith)
  each_trace (suc k) bounds =
      subst (λ session. IsTrace (script_of shift session) shift.patience (begin_at 0) (entries_of session entries)) (add-one k)
      (underway.each k bounds.1).trace

  -- all sessions have ended, so each went through its script to its end
  pub each_whole : HaveEnded shift progress (length shift.scripts) → (session : ℕ) → IsSession shift session
      → IsWholeTrace (script_of shift session) shift.patience (begin_at 0) (entries_of session entries)
  each_whole ended zero bounds = absurd (omega arith)
  each_whole ended (suc k) bounds =
      let within : k < length shift.scripts = bounds.1 in
      let at = underway.each k within in
      let trace : IsWholeTrace (script_of shift (k + 1)) shift.patience (begin_at 0) (entries_of (k + 1) entries) =
      record {
        trace = at.trace;
        unhalted = holds_halt-entries_of (k + 1) entries underway.unhalted;
        ended = subst (λ p. HasEnded (script_of shift (k + 1)) shift.patience p) (sym at.stands) (ended k within);
      } in
      subst (λ session. IsWholeTrace (script_of shift session) shift.patience (begin_at 0) (entries_of session entries)) (add-one k) trace

pub finish : (shift : Shift) (cell : Cell) (start now : List Part) (history : List Entry) (progress : List Progress) (turn done : ℕ)
    → IsUnderway shift cell start now history progress turn done → HaveEnded shift progress (length shift.scripts)
    → IsRoundRobin cell start shift history
finish shift cell start now history progress turn done underway ended = record {
  legal = underway.legal;
  whole = each_whole shift history progress turn done underway.rounds ended;
  sessions = underway.rounds.sessions;
  rising = underway.rounds.rising;
}
