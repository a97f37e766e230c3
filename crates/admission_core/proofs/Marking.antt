-- Marked resources, as parts come, go on and leave.
use Rattle.std.proofs.Common.{◌≡◌, ◌≢◌, ℕ, zero, suc, ◌-◌, ◌<◌, ◌≤◌, ◌==◌, ◌^◌, Bool, false, not, ◌&&◌, ◌||◌, List, [], ◌∷◌, ◌++◌}
use Rattle.std.proofs.Common.{length, get_or, None, find, bit_and, bit_or, ap, subst, sym, refl, arith, w64, ◌∙◌, ⊎_elim, ◌+◌}
use Rattle.std.specs.Int.{bit_at, bit_not}
use Rattle.std.proofs.lemmas.Bool.{eqb-true, eqb-false, ne_eqb, or_parts, or_cases, and_parts, and_cases}
use Rattle.std.proofs.lemmas.Bool.{not-false, false≢true, cases_eq, cases_lt}
use Rattle.std.proofs.lemmas.List.{get_or_default, get_or_append_left, get_or_push}
use Rattle.std.proofs.lemmas.List.Elements.{All-filter, All-push, All-weaker}
use Rattle.std.proofs.lemmas.Nat.Bits.{bit_at-lt, bit_at_not}
use Rattle.cell_base.specs.declared.cells.Cell.{Cell}
use Rattle.cell_base.specs.declared.cells.ResId.{ResId}
use Rattle.cell_base.specs.declared.requests.JobId.{JobId}
use Rattle.cell_base.specs.declared.requests.Part.{Part}
use Rattle.cell_base.specs.Masks.{has_bit}
use Rattle.cell_base.specs.Outcomes.{without, finish_first}
use Rattle.cell_base.specs.Policy.{is_of_job}
use Rattle.cell_base.specs.Plans.{resource_of_part}
use Rattle.cell_base.proofs.Bits.{has_bit-and, has_bit-or, has_bit-zero}
use Rattle.policy_laws.proofs.Lists.{find_none, All-find_none}
use Rattle.policy_laws.proofs.Parts.{All-finish_first}
use Rattle.admission_core.specs.Occupied.{Marked, AreBitsOf, IsOfRanks, HasBits, IsFree, IsMarked}

-- a bit of the bits that a mask has not
flipped : (x : ℕ) → x < 2 → ((1 - x) == 1) ≡ not (x == 1)
flipped zero h = refl
flipped (suc zero) h = refl
flipped (suc (suc x)) h = absurd (omega arith)

module _ (ranks : List ResId) (bits : List ℕ) (mask r : ℕ) (has : HasBits ranks bits mask) (within : r < length bits) where
  own : AreBitsOf ranks r (get_or bits r 0)
  own = has.each r within

  -- the bits of a resource are set
  pub bits_set : (k : ℕ) (d : ResId) → k < length ranks
      → has_bit (bit_or mask (get_or bits r 0)) k ≡ (has_bit mask k || ((get_or ranks k d).0 == r))
  bits_set k d h = has_bit-or mask (get_or bits r 0) k ∙ ap (λ b. has_bit mask k || b) (own.each k d h)

  pub set_of_ranks : IsOfRanks ranks (bit_or mask (get_or bits r 0))
  set_of_ranks k e =
      ⊎_elim (has.within k) (own.within k)
      (or_cases (has_bit mask k) (has_bit (get_or bits r 0) k) (sym (has_bit-or mask (get_or bits r 0) k) ∙ e))

  -- the bits of a resource are cleared
  pub bits_cleared : (k : ℕ) (d : ResId) → k < length ranks
      → has_bit (bit_and mask (bit_not w64 (get_or bits r 0))) k ≡ (has_bit mask k && not ((get_or ranks k d).0 == r))
  bits_cleared k d h =
      let few = has.few in
      has_bit-and mask (bit_not w64 (get_or bits r 0)) k
      ∙ ap (λ b. has_bit mask k && b)
      (ap (λ n. n == 1) (bit_at_not w64 (get_or bits r 0) k own.small (omega arith))
      ∙ flipped (bit_at (get_or bits r 0) k) (bit_at-lt (get_or bits r 0) k) ∙ ap not (own.each k d h))

  pub cleared_of_ranks : IsOfRanks ranks (bit_and mask (bit_not w64 (get_or bits r 0)))
  cleared_of_ranks k e =
      has.within k (and_parts (has_bit mask k) (has_bit (bit_not w64 (get_or bits r 0)) k)
      (sym (has_bit-and mask (bit_not w64 (get_or bits r 0)) k) ∙ e)).0

module _ (cell : Cell) (parts : List Part) (marked : Marked) (is : IsMarked cell parts marked) where
  -- where a part comes, its resource is marked
  pub marked_come : (next : Marked) (part : Part) (on : ResId) → on.0 ≡ resource_of_part cell part → next.ranks ≡ marked.ranks
      → next.resources ≡ marked.resources
      → ((k : ℕ) (d : ResId) → k < length marked.ranks
      → has_bit next.mask k ≡ (has_bit marked.mask k || ((get_or marked.ranks k d).0 == on.0)))
      → IsMarked cell (parts ++ part ∷ []) next
  marked_come next part on here ranks resources marks = record {
    ranking = rw ranks is.ranking;
    complete = resources ∙ is.complete;
    shown = rw ranks (λ k d h unset.
        let both = or_parts (has_bit marked.mask k) ((get_or marked.ranks k d).0 == on.0) (sym (marks k d h) ∙ unset) in
        All-push (λ (p : Part). resource_of_part cell p ≢ (get_or marked.ranks k d).0) parts part (is.shown k d h both.0)
        (λ same. eqb-false _ _ both.1 (sym same ∙ sym here)));
  }

  -- where a part goes, no resource has more
  pub marked_without : (job : JobId) → IsMarked cell (without parts job) marked
  marked_without job = record {
    ranking = is.ranking;
    complete = is.complete;
    shown = λ k d h unset.
        All-filter (λ part. not (is_of_job job part)) (λ (p : Part). resource_of_part cell p ≢ (get_or marked.ranks k d).0) parts
        (is.shown k d h unset);
  }

  -- work moves no part
  pub marked_finished : (test : Part → Bool) → IsMarked cell (finish_first test parts) marked
  marked_finished test = record {
    ranking = is.ranking;
    complete = is.complete;
    shown = λ k d h unset.
        All-finish_first (λ (p : Part). resource_of_part cell p ≢ (get_or marked.ranks k d).0) test parts (λ part away. away)
        (is.shown k d h unset);
  }

  -- a free resource need not be marked
  pub marked_free : (next : Marked) (r : ℕ) → find (λ part. resource_of_part cell part == r) parts ≡ None → next.ranks ≡ marked.ranks
      → next.resources ≡ marked.resources
      → ((k : ℕ) (d : ResId) → k < length marked.ranks
      → has_bit next.mask k ≡ (has_bit marked.mask k && not ((get_or marked.ranks k d).0 == r)))
      → IsMarked cell parts next
  marked_free next r nobody ranks resources marks = record {
    ranking = rw ranks is.ranking;
    complete = resources ∙ is.complete;
    shown = rw ranks (λ k d h unset.
        ⊎_elim (is.shown k d h)
        (λ here. let same : (get_or marked.ranks k d).0 ≡ r = eqb-true _ _ (not-false _ here) in
        subst (IsFree cell parts) (sym same) free)
        (and_cases (has_bit marked.mask k) (not ((get_or marked.ranks k d).0 == r)) (sym (marks k d h) ∙ unset)));
  }
    where
      free : IsFree cell parts r
      free =
          All-weaker (λ (p : Part). (resource_of_part cell p == r) ≡ false) (λ (p : Part). resource_of_part cell p ≢ r)
          (λ p away same. eqb-false _ _ away same) parts (All-find_none (λ part. resource_of_part cell part == r) parts nobody)

  -- so none is found on a resource that is not marked
  pub none_shown : (k : ℕ) (d : ResId) → k < length marked.ranks → has_bit marked.mask k ≡ false
      → find (λ part. resource_of_part cell part == (get_or marked.ranks k d).0) parts ≡ None
  none_shown k d h unset =
      find_none (λ part. resource_of_part cell part == (get_or marked.ranks k d).0) parts
      (All-weaker (λ (p : Part). resource_of_part cell p ≢ (get_or marked.ranks k d).0)
      (λ (p : Part). (resource_of_part cell p == (get_or marked.ranks k d).0) ≡ false) (λ p away. ne_eqb _ _ away) parts
      (is.shown k d h unset))

-- the bits of the ranks so far
pub record AreSoFar (ranks : List ResId) (r n mask : ℕ) : Type 0 where
  pub each : (k : ℕ) (d : ResId) → k < n → k < length ranks → has_bit mask k ≡ ((get_or ranks k d).0 == r)
  pub behind : (k : ℕ) → n ≤ k → has_bit mask k ≡ false

pub so_far_more : (ranks : List ResId) (r n mask next : ℕ) (d : ResId) → n < length ranks → AreSoFar ranks r n mask
    → has_bit next n ≡ ((get_or ranks n d).0 == r) → ((k : ℕ) → (k ≡ n → ⊥) → has_bit next k ≡ has_bit mask k)
    → AreSoFar ranks r (n + 1) next
so_far_more ranks r n mask next d inside are here others = record {
  each = λ k e below within. ⊎_elim (same k e) (λ away. others k away ∙ are.each k e (omega (arith, below, away)) within) (cases_eq k n);
  behind = λ k above. others k (λ e. absurd (omega (arith, e, above))) ∙ are.behind k (omega arith);
}
  where
    same : (k : ℕ) (e : ResId) → k ≡ n → has_bit next k ≡ ((get_or ranks k e).0 == r)
    same k e at =
        subst (λ j. has_bit next j ≡ ((get_or ranks j e).0 == r)) (sym at)
        (here ∙ ap (λ (q : ResId). q.0 == r) (get_or_default ranks n d e inside))

pub bits_made : (ranks : List ResId) (r mask : ℕ) → mask < 2 ^ 64 → AreSoFar ranks r (length ranks) mask → AreBitsOf ranks r mask
bits_made ranks r mask fits are = record {
  small = fits;
  within = λ k e. ⊎_elim (λ below. below) (λ above. absurd (false≢true (sym (are.behind k above) ∙ e))) (cases_lt k (length ranks));
  each = λ k d h. are.each k d h h;
}

-- the bits of one resource more
pub bits_more : (ranks : List ResId) (bits : List ℕ) (n mask : ℕ) → length bits ≡ n
    → ((r : ℕ) → r < n → AreBitsOf ranks r (get_or bits r 0)) → AreBitsOf ranks n mask
    → (r : ℕ) → r < n + 1 → AreBitsOf ranks r (get_or (bits ++ mask ∷ []) r 0)
bits_more ranks bits n mask long each last r within =
    ⊎_elim
    (λ (early : r < n). subst (AreBitsOf ranks r) (sym (get_or_append_left bits (mask ∷ []) 0 r (omega (arith, early, long))))
    (each r early))
    (λ (late : n ≤ r).
    let same : r ≡ n = omega arith in
    subst (AreBitsOf ranks r) (sym (get_or_push bits mask 0 r (omega (arith, same, long))))
    (subst (λ q. AreBitsOf ranks q mask) (sym same) last))
    (cases_lt r n)

-- no rank is marked yet
pub none_marked : (ranks : List ResId) (bits : List ℕ) → length ranks ≤ 64
    → ((r : ℕ) → r < length bits → AreBitsOf ranks r (get_or bits r 0)) → HasBits ranks bits 0
none_marked ranks bits few each = record {
  few = few;
  each = each;
  within = λ k e. absurd (false≢true (sym (has_bit-zero k) ∙ e));
}
