-- The bits of resources of at least an order, and the mask of a stage from them.
use Rattle.std.proofs.Common.{◌≡◌, ℕ, ◌+◌, ◌*◌, ◌^◌, ◌%◌, ◌<◌, ◌≤◌, ◌==◌, ◌≢◌, Bool, true, false, ◌||◌, ◌&&◌}
use Rattle.std.proofs.Common.{nat_lt, nat_le, length, bit_and, bit_or, ap, ap₂, refl, sym, ◌∙◌, ⊎_elim, arith}
use Rattle.std.specs.List.{list_any}
use Rattle.std.proofs.lemmas.Bool.{false≢true, eq-eqb, ne_eqb, lt-ltb, le-ltb, cases_lt, cases_eq, or_left}
use Rattle.cell_base.specs.declared.cells.Cell.{Cell}
use Rattle.cell_base.specs.Masks.{has_bit}
use Rattle.cell_base.specs.Stages.{Stage, IsStage, successors, resource_at, order_at, order_of}
use Rattle.cell_base.specs.Neighborhoods.{leads, mask_of}
use Rattle.cell_base.specs.Fits.{CellFits}
use Rattle.cell_base.proofs.Bits.{has_bit-and, has_bit_set_same, has_bit_set_other}
use Rattle.policy_laws.proofs.Lists.{list_any-found}
use Rattle.policy_laws.proofs.Leading.{leads_sweep, leads-resource}
use Rattle.policy_laws.proofs.Masks.{mask_from_bits}
use Rattle.upstream_sets.specs.Sweeps.{IsFloor}

below_more_test : (q r : ℕ) → q ≢ r → nat_lt q (r + 1) ≡ nat_lt q r
below_more_test q r other = ⊎_elim
    (λ (h : q < r). lt-ltb q (r + 1) (omega arith) ∙ sym (lt-ltb q r h))
    (λ (h : r ≤ q). le-ltb q (r + 1) (omega (arith, h, other)) ∙ sym (le-ltb q r h))
    (cases_lt q r)

-- the bits below r that pass a test, and then bit r
pub has_bit-below_more : (test : ℕ → Bool) (r mask next : ℕ) → ((q : ℕ) → has_bit mask q ≡ (nat_lt q r && test q))
    → has_bit next r ≡ test r → ((q : ℕ) → q ≢ r → has_bit next q ≡ has_bit mask q)
    → (q : ℕ) → has_bit next q ≡ (nat_lt q (r + 1) && test q)
has_bit-below_more test r mask next below here others q = ⊎_elim same other (cases_eq q r)
  where
    same : q ≡ r → has_bit next q ≡ (nat_lt q (r + 1) && test q)
    same e = rw e (here ∙ ap (λ b. b && test r) (sym (lt-ltb r (r + 1) (omega arith))))

    other : (q ≡ r → ⊥) → has_bit next q ≡ (nat_lt q (r + 1) && test q)
    other away = others q away ∙ below q ∙ ap (λ b. b && test q) (sym (below_more_test q r away))

-- bit r is not among those below r
pub no_bit : (test : ℕ → Bool) (r mask : ℕ) → ((q : ℕ) → has_bit mask q ≡ (nat_lt q r && test q)) → test r ≡ false
    → has_bit mask r ≡ test r
no_bit test r mask below fails = below r ∙ ap (λ b. b && test r) (le-ltb r r (omega arith)) ∙ sym fails

-- what leads on is a resource of the cell, so the test that it is one can be left out
cut : (found within order : Bool) → (found ≡ true → within ≡ true) → (found && (within && order)) ≡ (order && found)
cut false within false h = refl
cut false within true h = refl
cut true false order h = absurd (false≢true (h refl))
cut true true false h = refl
cut true true true h = refl

module _ (cell : Cell) (fits : CellFits cell) (s : Stage) (standing : IsStage cell s) where
  -- what the successors lead to, cut to the resources of at least the order of the stage, and the resource of the stage
  pub swept : (onward least on : ℕ) → on ≡ resource_at cell s → on < 64
      → ((r : ℕ) → has_bit onward r ≡ list_any (λ t. leads cell t r) (successors cell s))
      → IsFloor cell (order_at cell s) least
      → bit_or (bit_and onward least) (1 * 2 ^ on % 2 ^ 64) ≡ mask_of cell s
  swept onward least on here fit joined floor =
      mask_from_bits cell fits s (bit_or (bit_and onward least) (1 * 2 ^ on % 2 ^ 64))
      (λ r. ⊎_elim (same r) (other r) (cases_eq r on) ∙ sym (leads_sweep cell fits r s standing))
    where
      within : (r : ℕ) → list_any (λ t. leads cell t r) (successors cell s) ≡ true → nat_lt r (length cell.resources) ≡ true
      within r e =
          let found = list_any-found (λ t. leads cell t r) (successors cell s) e in
          lt-ltb _ _ (leads-resource cell fits r found.0 found.2)

      same : (r : ℕ) → r ≡ on → has_bit (bit_or (bit_and onward least) (1 * 2 ^ on % 2 ^ 64)) r
          ≡ ((resource_at cell s == r)
          || (nat_le (order_at cell s) (order_of cell r) && list_any (λ t. leads cell t r) (successors cell s)))
      same r e =
          ap (has_bit (bit_or (bit_and onward least) (1 * 2 ^ on % 2 ^ 64))) e
          ∙ has_bit_set_same (bit_and onward least) on fit
          ∙ sym (or_left _ _ (eq-eqb _ _ (sym here ∙ sym e)))

      other : (r : ℕ) → (r ≡ on → ⊥) → has_bit (bit_or (bit_and onward least) (1 * 2 ^ on % 2 ^ 64)) r
          ≡ ((resource_at cell s == r)
          || (nat_le (order_at cell s) (order_of cell r) && list_any (λ t. leads cell t r) (successors cell s)))
      other r away =
          has_bit_set_other (bit_and onward least) on r fit away
          ∙ has_bit-and onward least r
          ∙ ap₂ ◌&&◌ (joined r) (floor r)
          ∙ cut _ _ (nat_le (order_at cell s) (order_of cell r)) (within r)
          ∙ ap (λ b. b || (nat_le (order_at cell s) (order_of cell r) && list_any (λ t. leads cell t r) (successors cell s)))
          (sym (ne_eqb _ _ (λ e. away (sym e ∙ sym here))))
