-- For callers: which passes a lock was opened with, and that they stay so.
use Rattle.std.proofs.Common.{◌≡◌, ℕ, zero, suc, ◌+◌, ◌<◌, List, [], ◌∷◌, length, slice_index_or, refl, ◌∙◌, arith}
use Rattle.cell_lock.specs.Passes.{LockId, PassState, KeepsName, new_passes, ArePassesNumbered, AreAll}

numbered_new : {D : Type 0} (moment : D → ℕ) (lock : LockId D) (first n : ℕ) → ArePassesNumbered lock first (new_passes moment lock first n)
numbered_new moment lock first zero = tt
numbered_new moment lock first (suc n) = (refl, refl, numbered_new moment lock (first + 1) n)

length_new : {D : Type 0} (moment : D → ℕ) (lock : LockId D) (first n : ℕ) → length (new_passes moment lock first n) ≡ n
length_new moment lock first zero = refl
length_new moment lock first (suc n) = let more = length_new moment lock (first + 1) n in omega arith

-- the passes that a lock gives are all
pub all_new : {D : Type 0} (moment : D → ℕ) (lock : LockId D) (n : ℕ) → n ≡ lock.opening.passes
    → AreAll lock (new_passes moment lock 1 n)
all_new moment lock n same = record { numbered = numbered_new moment lock 1 n; count = length_new moment lock 1 n ∙ same }

numbered_kept : {D : Type 0} (lock : LockId D) (first : ℕ) (old new : List (PassState D)) → length new ≡ length old
    → ((i : ℕ) (d : PassState D) → i < length old → KeepsName (slice_index_or old i d) (slice_index_or new i d))
    → ArePassesNumbered lock first old → ArePassesNumbered lock first new
numbered_kept lock first [] [] len keep h = tt
numbered_kept lock first [] (q ∷ qs) len keep h = absurd (omega arith)
numbered_kept lock first (p ∷ ps) [] len keep h = absurd (omega arith)
numbered_kept lock first (p ∷ ps) (q ∷ qs) len keep h =
    let here : KeepsName p q = keep 0 p (omega arith) in
    (here.lock ∙ h.0, here.number ∙ h.1, numbered_kept lock (first + 1) ps qs (omega arith) (λ i d lt. keep (suc i) d (omega arith)) h.2)

-- passes that keep their lock and their number, place by place, stay all
pub all_kept : {D : Type 0} (lock : LockId D) (old new : List (PassState D)) → length new ≡ length old
    → ((i : ℕ) (d : PassState D) → i < length old → KeepsName (slice_index_or old i d) (slice_index_or new i d))
    → AreAll lock old → AreAll lock new
all_kept lock old new len keep all = record { numbered = numbered_kept lock 1 old new len keep all.numbered; count = len ∙ all.count }
