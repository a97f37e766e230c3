-- One step of a loop over the bits of a mask: the lowest bit r of those that are left is done.
use Rattle.std.proofs.Common.{◌≡◌, ℕ, ◌+◌, ◌-◌, ◌<◌, ◌≤◌, List, length, get_or, set, subst}
use Rattle.std.proofs.Common.{sym, arith, ⊎_elim, get_or-set_same, get_or-set_other}
use Rattle.std.specs.Int.{bit_at}
use Rattle.std.proofs.lemmas.Bool.{cases_eq}
use Rattle.std.proofs.lemmas.Nat.Bits.{bit_at-lt}
use Rattle.cell_base.proofs.Bits.{IsWithoutLowest}

module _ (mask left r rest : ℕ) (step : IsWithoutLowest left r rest) (part : (q : ℕ) → bit_at left q ≤ bit_at mask q) where
  pub set_in_mask : bit_at mask r ≡ 1
  set_in_mask = omega (arith, step.here, part r, bit_at-lt mask r)

  pub rest_in_mask : (q : ℕ) → bit_at rest q ≤ bit_at mask q
  rest_in_mask q = ⊎_elim same other (cases_eq q r)
    where
      same : q ≡ r → bit_at rest q ≤ bit_at mask q
      same e = subst (λ k. bit_at rest k ≤ bit_at mask k) (sym e) (omega (arith, step.gone))

      other : (q ≡ r → ⊥) → bit_at rest q ≤ bit_at mask q
      other away = omega (arith, step.others q away, part q)

  module _ (counts old : List ℕ) (within : r < length counts) where
    -- what rises at each bit that is done
    pub raised : ((q : ℕ) → get_or counts q 0 + bit_at left q ≡ get_or old q 0 + bit_at mask q)
        → (q : ℕ) → get_or (set counts r (get_or counts r 0 + 1)) q 0 + bit_at rest q ≡ get_or old q 0 + bit_at mask q
    raised so_far q = ⊎_elim same other (cases_eq q r)
      where
        same : q ≡ r → get_or (set counts r (get_or counts r 0 + 1)) q 0 + bit_at rest q ≡ get_or old q 0 + bit_at mask q
        same e =
            subst (λ k. get_or (set counts r (get_or counts r 0 + 1)) k 0 + bit_at rest k ≡ get_or old k 0 + bit_at mask k) (sym e)
            (rw (get_or-set_same counts r (get_or counts r 0 + 1) 0 within) (omega (arith, so_far r, step.here, step.gone)))

        other : (q ≡ r → ⊥) → get_or (set counts r (get_or counts r 0 + 1)) q 0 + bit_at rest q ≡ get_or old q 0 + bit_at mask q
        other away =
            rw (get_or-set_other counts r q (get_or counts r 0 + 1) 0 away, step.others q away) (so_far q)

    -- what falls at each bit that is done
    pub lowered : 0 < get_or counts r 0 → ((q : ℕ) → get_or counts q 0 + bit_at mask q ≡ get_or old q 0 + bit_at left q)
        → (q : ℕ) → get_or (set counts r (get_or counts r 0 - 1)) q 0 + bit_at mask q ≡ get_or old q 0 + bit_at rest q
    lowered held so_far q = ⊎_elim same other (cases_eq q r)
      where
        same : q ≡ r → get_or (set counts r (get_or counts r 0 - 1)) q 0 + bit_at mask q ≡ get_or old q 0 + bit_at rest q
        same e =
            subst (λ k. get_or (set counts r (get_or counts r 0 - 1)) k 0 + bit_at mask k ≡ get_or old k 0 + bit_at rest k) (sym e)
            (rw (get_or-set_same counts r (get_or counts r 0 - 1) 0 within) (omega (arith, held, so_far r, step.here, step.gone)))

        other : (q ≡ r → ⊥) → get_or (set counts r (get_or counts r 0 - 1)) q 0 + bit_at mask q ≡ get_or old q 0 + bit_at rest q
        other away =
            rw (get_or-set_other counts r q (get_or counts r 0 - 1) 0 away, step.others q away) (so_far q)
