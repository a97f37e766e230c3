-- What is left where one of several values is taken out.
use Rattle.std.proofs.Common.{◌≡◌, ℕ, zero, suc, ◌+◌, ◌-◌, ◌<◌, ◌≤◌, ◌++◌, List, [], ◌∷◌, drop, take, length, append_assoc, ap, sym, ◌∙◌, arith}
use Rattle.std.proofs.Math.Seq.{drop-append_seam}
use Rattle.std.proofs.lemmas.List.{drop-drop, length-drop, length-take-le}
use Rattle.std.specs.List.{copy_within, remove}

module _ {X : Type 0} where
  -- what comes after a head of n values
  after-head : (n : ℕ) (head next rest : List X) → length head ≡ n → drop n ((head ++ next) ++ rest) ≡ next ++ rest
  after-head n head next rest long =
      ap (λ (k : ℕ). drop k ((head ++ next) ++ rest)) (sym long)
      ∙ ap (λ (xs : List X). drop (length head) xs) (append_assoc head next rest)
      ∙ drop-append_seam head (next ++ rest)

  -- Those before a place move up by one, onto it, and the first place is left.
  pub moved-up : (xs : List X) (gone at : ℕ) → at < length (drop gone xs)
      → drop (gone + 1) (copy_within xs gone (gone + at) (gone + 1)) ≡ remove (drop gone xs) at
  moved-up xs gone at within =
      let moved = gone + at - gone in
      let few : moved ≡ at = omega arith in
      let inside : gone + 1 ≤ length xs = omega (arith, within, length-drop gone xs) in
      let same : gone + 1 + moved ≡ gone + suc at = omega (arith, few) in
      after-head (gone + 1) (take (gone + 1) xs) (take moved (drop gone xs)) (drop (gone + 1 + moved) xs)
      (length-take-le (gone + 1) xs inside)
      ∙ ap (λ (n : ℕ). take n (drop gone xs) ++ drop (gone + 1 + moved) xs) few
      ∙ ap (λ (n : ℕ). take at (drop gone xs) ++ drop n xs) same
      ∙ ap (λ (ys : List X). take at (drop gone xs) ++ ys) (sym (drop-drop (suc at) gone xs))

  -- Behind those that have left, what is taken out of the places is taken out of the values.
  pub taken-behind : (xs : List X) (gone at : ℕ) → at < length (drop gone xs) → drop gone (remove xs (gone + at)) ≡ remove (drop gone xs) at
  taken-behind xs zero at within =
      let same : 0 + at ≡ at = omega arith in ap (λ (n : ℕ). remove xs n) same
  taken-behind [] (suc gone) at within = absurd (omega (arith, within))
  taken-behind (x ∷ xs) (suc gone) at within =
      let same : suc gone + at ≡ suc (gone + at) = omega arith in
      ap (λ (n : ℕ). drop (suc gone) (remove (x ∷ xs) n)) same ∙ taken-behind xs gone at within
