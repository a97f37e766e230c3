-- A stage is put into the lists of the resources of a mask, from the lowest on.
use Rattle.std.proofs.Common.{◌≡◌, ℕ, ◌+◌, ◌<◌, ◌==◌, Bool, cond, List, [], ◌∷◌, ◌++◌, length, get_or, set, ap, sym, subst}
use Rattle.std.proofs.Common.{◌∙◌, ⊎_elim, get_or-set_same, get_or-set_other, append-nil}
use Rattle.std.proofs.lemmas.Bool.{cases_eq}
use Rattle.cell_base.specs.Masks.{has_bit}
use Rattle.cell_base.proofs.Bits.{IsWithoutLowest, has_bit-of_one}
use Rattle.route_table.specs.declared.stage_table.StageNo.{StageNo}
use Rattle.upstream_sets.specs.Members.{with_bit_before}
use Rattle.upstream_sets.proofs.Stages.{of_number, with_bit_before-next}

module _ (stage : StageNo) where
  -- the stage, if a mask has the bit of a resource
  abbrev pub added : ℕ → ℕ → List StageNo
  added mask r = cond (has_bit mask r) (stage ∷ []) []

  module _ (mask left r rest : ℕ) (step : IsWithoutLowest left r rest) (before lists : List (List StageNo)) (list : List StageNo)
      (within : r < length lists) (is : list ≡ get_or lists r [] ++ stage ∷ [])
      (each : (q : ℕ) → get_or lists q [] ++ added left q ≡ get_or before q [] ++ added mask q) where
    -- the lowest resource that is left has got it
    pub added_lowest : (q : ℕ) → get_or (set lists r list) q [] ++ added rest q ≡ get_or before q [] ++ added mask q
    added_lowest q = ⊎_elim here other (cases_eq q r)
      where
        gone : added rest r ≡ []
        gone = ap (λ (bit : ℕ). cond {A = List StageNo} (bit == 1) (stage ∷ []) []) step.gone

        there : added left r ≡ stage ∷ []
        there = ap (λ (b : Bool). cond {A = List StageNo} b (stage ∷ []) []) (has_bit-of_one left r step.here)

        here : q ≡ r → get_or (set lists r list) q [] ++ added rest q ≡ get_or before q [] ++ added mask q
        here same = subst (λ k. get_or (set lists r list) k [] ++ added rest k ≡ get_or before k [] ++ added mask k) (sym same)
            (ap (λ (l : List StageNo). l ++ added rest r) (get_or-set_same lists r list [] within ∙ is)
            ∙ ap (λ (l : List StageNo). (get_or lists r [] ++ stage ∷ []) ++ l) gone
            ∙ append-nil (get_or lists r [] ++ stage ∷ [])
            ∙ ap (λ (l : List StageNo). get_or lists r [] ++ l) (sym there)
            ∙ each r)

        other : (q ≡ r → ⊥) → get_or (set lists r list) q [] ++ added rest q ≡ get_or before q [] ++ added mask q
        other away =
            ap (λ (l : List StageNo). l ++ added rest q) (get_or-set_other lists r q list [] away)
            ∙ ap (λ (bit : ℕ). get_or lists q [] ++ cond {A = List StageNo} (bit == 1) (stage ∷ []) []) (step.others q away)
            ∙ each q

-- a stage more of each resource
pub bits_more : (n : ℕ) (masks : List ℕ) (r : ℕ) (before after : List (List StageNo))
    → get_or before r [] ≡ with_bit_before n masks r
    → get_or after r [] ≡ get_or before r [] ++ added (of_number n) (get_or masks n 0) r
    → get_or after r [] ≡ with_bit_before (n + 1) masks r
bits_more n masks r before after so_far put =
    put ∙ ap (λ (l : List StageNo). l ++ added (of_number n) (get_or masks n 0) r) so_far ∙ sym (with_bit_before-next n masks r)
