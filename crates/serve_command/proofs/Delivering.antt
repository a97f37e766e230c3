-- Pieces that are delivered after others.
use Rattle.std.proofs.Common.{◌≡◌, ℕ, List, ◌++◌, Option, ◌∙◌, subst}
use Rattle.outside_io.specs.Causes.{Rose}
use Rattle.outside_io.specs.PutLaws.{failed_after, took_more}
use Rattle.outside_io.specs.Puts.{SinkTold, TookAll, TookSome, sink_told}
use Rattle.cell_walks.specs.Outcomes.{Cut, IsDelivered, Outcome, Whole}
use Rattle.cell_walks.specs.Statuses.{IsTaken}
use Rattle.cell_walks.specs.declared.status.Status.{Status}

-- only the status and the pieces of an outcome are delivered
pub same_delivered : (sink : SinkTold) (status : Status) (one other : Outcome) → one.status ≡ other.status → one.pieces ≡ other.pieces
    → IsDelivered sink one status → IsDelivered sink other status
same_delivered sink status one other same_status same_pieces (Whole is taken took kept) =
    Whole (is ∙ same_status) (subst IsTaken same_status taken) (subst (TookAll sink) same_pieces took) kept
same_delivered sink status one other same_status same_pieces (Cut is some rose) = Cut is (subst (TookSome sink) same_pieces some) rose

module _ {K : Type 0} (taken : K → Option (List ℕ)) (was_put : K → List ℕ → K → Type 0) (faults : K → ℕ) (a b c : K)
    (front : List (List ℕ)) (took : TookAll (sink_told taken was_put faults a b) front) (still : faults b ≡ faults a) where
  -- pieces that were taken, and then an outcome
  pub delivered_after : (status : Status) (one other : Outcome) → one.status ≡ other.status → front ++ one.pieces ≡ other.pieces
      → IsDelivered (sink_told taken was_put faults b c) one status → IsDelivered (sink_told taken was_put faults a c) other status
  delivered_after status one other same_status same_pieces (Whole is is_taken more kept) =
      Whole (is ∙ same_status) (subst IsTaken same_status is_taken)
      (subst (TookAll (sink_told taken was_put faults a c)) same_pieces (took_more taken was_put faults a b c front one.pieces took more))
      (kept ∙ still)
  delivered_after status one other same_status same_pieces (Cut is some rose) =
      Cut is
      (subst (TookSome (sink_told taken was_put faults a c)) same_pieces
      (failed_after taken was_put faults a b c front one.pieces took some))
      (subst (λ (n : ℕ). Rose n (faults c)) still rose)
