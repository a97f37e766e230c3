-- A session that has ended passes its turn, and a round is over when all have had theirs.
use Rattle.std.proofs.Common.{◌≡◌, ◌≢◌, ◌⊎◌, ⊎_elim, ℕ, zero, suc, ◌+◌, ◌-◌, ◌<◌, ◌≤◌, nat_lt, Bool, true, false, cond}
use Rattle.std.proofs.Common.{List, length, refl, sym, subst, inl, inr, arith, below_more}
use Rattle.std.specs.Bool.{OnFalse}
use Rattle.std.proofs.lemmas.Bool.{cases_lt}
use Rattle.std.proofs.lemmas.Bool.Decides.{nat_tests}
use Rattle.std.proofs.lemmas.List.Elements.{All-weaker}
use Rattle.cell_base.specs.declared.cells.Cell.{Cell}
use Rattle.cell_base.specs.declared.requests.Part.{Part}
use Rattle.cell_base.specs.declared.shifts.Entry.{Entry}
use Rattle.cell_base.specs.declared.shifts.Shift.{Shift}
use Rattle.cell_base.specs.Scripts.{Progress}
use Rattle.cell_base.specs.Rounds.{Turn, Precedes}
use Rattle.solo_rounds.specs.Underway.{AreUnderway, HasEndedAt, HaveEnded, HaveEndedFrom, IsNextGoing, IsUnderway}

-- a turn goes before a later one
pub later_turn : (t : Turn) (turn session : ℕ) → Precedes t (record { turn = turn; session = session })
    → Precedes t (record { turn = turn; session = session + 1 })
later_turn t turn session (inl earlier) = inl earlier
later_turn t turn session (inr same) = inr (same.0, omega (arith, same.1))

next_turn : (t : Turn) (turn session : ℕ) → Precedes t (record { turn = turn; session = session })
    → Precedes t (record { turn = turn + 1; session = 1 })
next_turn t turn session (inl earlier) = inl (omega arith)
next_turn t turn session (inr same) = inl (omega (arith, same.0))

-- whether a session has had its turn, one session later
pub had_turn : (k done : ℕ) → k ≢ done → cond {A = ℕ} (nat_lt k (done + 1)) 1 0 ≡ cond {A = ℕ} (nat_lt k done) 1 0
had_turn k done other = grind (arith, nat_tests)

module _ (shift : Shift) (entries : List Entry) (progress : List Progress) (turn done : ℕ)
    (underway : AreUnderway shift entries progress turn done) where
  -- the next session has ended, and asks nothing
  pub passed : HasEndedAt shift progress done → AreUnderway shift entries progress turn (done + 1)
  passed ended = record {
    unhalted = underway.unhalted;
    each = λ k within.
        let at = underway.each k within in
        record {
          trace = at.trace;
          stands = at.stands;
          asked = λ going.
              let other : k ≢ done = λ same. going (subst (λ j. HasEndedAt shift progress j) (sym same) ended) in
              rw (had_turn k done other) (at.asked going);
        };
    sessions = underway.sessions;
    rising = underway.rising;
    earlier = All-weaker _ _ (λ t. later_turn t turn (done + 1)) _ underway.earlier;
  }

  -- all sessions have had their turn
  pub round_over : length shift.scripts ≡ done → AreUnderway shift entries progress (turn + 1) 0
  round_over all = record {
    unhalted = underway.unhalted;
    each = λ k within.
        let at = underway.each k within in
        record {
          trace = at.trace;
          stands = at.stands;
          asked = λ going. let counted = at.asked going in grind (arith, nat_tests);
        };
    sessions = underway.sessions;
    rising = underway.rising;
    earlier = All-weaker _ _ (λ t. next_turn t turn (done + 1)) _ underway.earlier;
  }

module _ (shift : Shift) (cell : Cell) (start now : List Part) (history : List Entry) (progress : List Progress) (turn done : ℕ)
    (underway : IsUnderway shift cell start now history progress turn done) where
  pub pass : HasEndedAt shift progress done → IsUnderway shift cell start now history progress turn (done + 1)
  pass ended = record {
    legal = underway.legal;
    state = underway.state;
    rounds = passed shift history progress turn done underway.rounds ended;
  }

  pub turn_over : length shift.scripts ≡ done → IsUnderway shift cell start now history progress (turn + 1) 0
  turn_over all = record {
    legal = underway.legal;
    state = underway.state;
    rounds = round_over shift history progress turn done underway.rounds all;
  }

-- so do several, one after the other
module _ (shift : Shift) (cell : Cell) (start now : List Part) (history : List Entry) (progress : List Progress) where
  pass_all : (turn from count : ℕ) → HaveEndedFrom shift progress from (from + count)
      → IsUnderway shift cell start now history progress turn from
      → IsUnderway shift cell start now history progress turn (from + count)
  pass_all turn from zero ended underway =
      subst (λ done. IsUnderway shift cell start now history progress turn done) (omega arith) underway
  pass_all turn from (suc n) ended underway =
      let before = pass_all turn from n (λ j above below. ended j above (omega (arith, below))) underway in
      subst (λ done. IsUnderway shift cell start now history progress turn done) (omega arith)
      (pass shift cell start now history progress turn (from + n) before (ended (from + n) (omega arith) (omega arith)))

  pub pass_to : (turn from to : ℕ) → from ≤ to → HaveEndedFrom shift progress from to
      → IsUnderway shift cell start now history progress turn from
      → IsUnderway shift cell start now history progress turn to
  pass_to turn from to upward ended underway =
      let is : from + (to - from) ≡ to = omega (arith, upward) in
      subst (λ done. IsUnderway shift cell start now history progress turn done) is
      (pass_all turn from (to - from) (subst (HaveEndedFrom shift progress from) (sym is) ended) underway)

  -- up to the next one that goes on, in this turn or in the one after it
  pub pass_to_next : (turn next k : ℕ) → next ≤ length shift.scripts → IsNextGoing shift progress next k
      → IsUnderway shift cell start now history progress turn next
      → (later : ℕ) × IsUnderway shift cell start now history progress later k
  pass_to_next turn next k within is underway = by_place is.before
    where
      by_place : (next ≤ k) × HaveEndedFrom shift progress next k
          ⊎ HaveEndedFrom shift progress next (length shift.scripts) × HaveEndedFrom shift progress 0 k
          → (later : ℕ) × IsUnderway shift cell start now history progress later k
      by_place (inl here) = (turn, pass_to turn next k here.0 here.1 underway)
      by_place (inr over) = (
        turn + 1,
        pass_to (turn + 1) 0 k (omega arith) over.1
            (turn_over shift cell start now history progress turn (length shift.scripts)
            (pass_to turn next (length shift.scripts) within over.0 underway) refl),
      )

-- one session more of some has ended
pub HaveEndedFrom-more : (shift : Shift) (progress : List Progress) (from k : ℕ) → HaveEndedFrom shift progress from k
    → HasEndedAt shift progress k → HaveEndedFrom shift progress from (k + 1)
HaveEndedFrom-more shift progress from k before here j above below =
    ⊎_elim
    (λ (less : j < k). before j above less)
    (λ (more : k ≤ j). let same : k ≡ j = omega (arith, below, more) in subst (HasEndedAt shift progress) same here)
    (cases_lt j k)

-- one session more has ended
pub HaveEnded-more : (shift : Shift) (old new : List Progress) (k : ℕ) → new ≡ old → HaveEnded shift old k
    → HasEndedAt shift old k → HaveEnded shift new (k + 1)
HaveEnded-more shift old new k same before here = rw same (below_more (λ j. HasEndedAt shift old j) k before here)

pub OnFalse-map : (b : Bool) (P Q : Type 0) → (P → Q) → OnFalse b P → OnFalse b Q
OnFalse-map true P Q f h = h
OnFalse-map false P Q f h = f h
