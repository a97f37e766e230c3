-- Rounds begin with no entry; a session that has ended passes its turn; a round is over when all have had theirs, and the last one when
-- all have ended.
use Rattle.std.proofs.Common.{◌≡◌, ℕ, ◌+◌, List, [], length, replicate, refl}
use Rattle.std.proofs.lemmas.List.Elements.{All-nil}
use Rattle.cell_base.specs.declared.cells.Cell.{Cell}
use Rattle.cell_base.specs.declared.requests.Part.{Part}
use Rattle.cell_base.specs.declared.shifts.Shift.{Shift}
use Rattle.cell_base.specs.Scripts.{Progress, begin_at}
use Rattle.solo_rounds.specs.Underway.{HasEndedAt, HaveEnded}
use Rattle.solo_rounds.proofs.Ends.{each_whole, none_asked}
use Rattle.solo_rounds.proofs.Turns.{passed, round_over}
use Rattle.hybrid_rounds.specs.declared.entries.HybridEntry.{HybridEntry}
use Rattle.hybrid_rounds.specs.Histories.{all_taken}
use Rattle.hybrid_rounds.specs.Rounds.{IsHybridRoundRobin}
use Rattle.hybrid_rounds.specs.Underway.{IsUnderway}

-- no session has asked yet
pub begin : (shift : Shift) (cell : Cell) (start : List Part) (first : Progress) → first ≡ begin_at 0
    → IsUnderway shift cell start start [] (replicate 64 first) 0 0
begin shift cell start first is = record { legal = tt; state = refl; requests = All-nil _; rounds = none_asked shift first is }

module _ (shift : Shift) (cell : Cell) (start now : List Part) (history : List HybridEntry) (progress : List Progress) (turn done : ℕ)
    (underway : IsUnderway shift cell start now history progress turn done) where
  -- the next session has ended, and asks nothing
  pub pass : HasEndedAt shift progress done → IsUnderway shift cell start now history progress turn (done + 1)
  pass ended = record {
    legal = underway.legal;
    state = underway.state;
    requests = underway.requests;
    rounds = passed shift _ progress turn done underway.rounds ended;
  }

  -- all sessions have had their turn
  pub turn_over : length shift.scripts ≡ done → IsUnderway shift cell start now history progress (turn + 1) 0
  turn_over all = record {
    legal = underway.legal;
    state = underway.state;
    requests = underway.requests;
    rounds = round_over shift _ progress turn done underway.rounds all;
  }

  -- all sessions have ended
  pub finish : HaveEnded shift progress (length shift.scripts) → IsHybridRoundRobin cell start shift history
  finish ended = record {
    legal = underway.legal;
    rounds = record {
      whole = each_whole shift (all_taken history) progress turn done underway.rounds ended;
      sessions = underway.rounds.sessions;
      rising = underway.rounds.rising;
    };
  }
