-- The masks of sets of resources: which bits they have, and one resource more.
use Rattle.std.proofs.Common.{◌≡◌, ℕ, zero, suc, ◌+◌, ◌-◌, ◌^◌, ◌<◌, ◌==◌, ◌≢◌, Bool, true, false, cond, ap}
use Rattle.std.proofs.Common.{refl, sym, subst, ◌∙◌, arith}
use Rattle.std.specs.List.{range_with_len}
use Rattle.std.proofs.lemmas.Bool.{eq-eqb, ne_eqb}
use Rattle.std.proofs.lemmas.List.Sums.{length-filter}
use Rattle.std.proofs.lemmas.Nat.Bits.{same_from_bits_below}
use Rattle.cell_base.specs.Masks.{has_bit}
use Rattle.cell_base.proofs.Bits.{bit_at-number}
use Rattle.policy_laws.proofs.Masks.{AreBits, with_bit}
use Rattle.order_advisor.specs.Sets.{members_of}
use Rattle.policy_laws.proofs.Totals.{total}
use Rattle.order_advisor.proofs.Sums.{total-sum_by, total_changed}

-- the mask of the numbers below n that pass a test
abbrev pub mask_by : (ℕ → Bool) → ℕ → ℕ
mask_by test n = total (λ q. cond (test q) (2 ^ q) 0) n

pub are_bits : (test : ℕ → Bool) (n : ℕ) → AreBits test n (mask_by test n)
are_bits test zero = record { small = omega arith; bits = λ r within. absurd (omega arith) }
are_bits test (suc n) = with_bit test n (mask_by test n) (test n) refl (are_bits test n)

-- a set is the mask of its bits
pub mask_by-same : (n set : ℕ) (test : ℕ → Bool) → set < 2 ^ n → ((r : ℕ) → r < n → has_bit set r ≡ test r) → set ≡ mask_by test n
mask_by-same n set test small same =
    let made = are_bits test n in
    same_from_bits_below n set (mask_by test n) small made.small
    (λ r within. bit_at-number set r ∙ ap (λ b. cond b 1 0) (same r within ∙ sym (made.bits r within))
    ∙ sym (bit_at-number (mask_by test n) r))

-- one number more in the set
pub mask_by-added : (n r : ℕ) (test more : ℕ → Bool) → r < n → test r ≡ false → more r ≡ true
    → ((q : ℕ) → q < n → q ≢ r → more q ≡ test q) → mask_by more n ≡ mask_by test n + 2 ^ r
mask_by-added n r test more within out stands others =
    total_changed (λ q. cond (test q) (2 ^ q) 0) (λ q. cond (more q) (2 ^ q) 0) n r (2 ^ r) within
    (let here : cond (more r) (2 ^ r) 0 ≡ 2 ^ r = ap (λ b. cond b (2 ^ r) 0) stands in
    let none : cond (test r) (2 ^ r) 0 ≡ 0 = ap (λ b. cond b (2 ^ r) 0) out in
    omega arith)
    (λ q h other. ap (λ b. cond b (2 ^ q) 0) (others q h other))

-- a set without one of its resources
pub record IsWithout (n set r before : ℕ) : Type 0 where
  pub is : set ≡ before + 2 ^ r
  pub gone : has_bit before r ≡ false
  pub others : (q : ℕ) → q < n → q ≢ r → has_bit before q ≡ has_bit set q
  pub small : before < 2 ^ n

pub without : (n set r : ℕ) → set < 2 ^ n → r < n → has_bit set r ≡ true → IsWithout n set r (set - 2 ^ r)
without n set r small within stands = subst (IsWithout n set r) rest (record {
  is = is;
  gone = bits.bits r within ∙ out;
  others = λ q h other. bits.bits q h ∙ kept q other;
  small = bits.small;
})
  where
    test : ℕ → Bool
    test q = cond (q == r) false (has_bit set q)

    bits : AreBits test n (mask_by test n)
    bits = are_bits test n

    out : cond (r == r) false (has_bit set r) ≡ false
    out = ap (λ b. cond b false (has_bit set r)) (eq-eqb r r refl)

    kept : (q : ℕ) → q ≢ r → cond (q == r) false (has_bit set q) ≡ has_bit set q
    kept q other = ap (λ b. cond b false (has_bit set q)) (ne_eqb q r other)

    is : set ≡ mask_by test n + 2 ^ r
    is = mask_by-same n set (has_bit set) small (λ q h. refl)
        ∙ mask_by-added n r test (has_bit set) within out stands (λ q h other. sym (kept q other))

    rest : mask_by test n ≡ set - 2 ^ r
    rest = omega (arith, is)

-- how many resources a set has
pub members_of-total : (n set : ℕ) → members_of n set ≡ total (λ q. cond (has_bit set q) 1 0) n
members_of-total n set = length-filter (has_bit set) (range_with_len 0 n) ∙ total-sum_by (λ q. cond (has_bit set q) 1 0) n
