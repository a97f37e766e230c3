-- Two ways to part one list.
use Rattle.std.proofs.Common.{◌≡◌, ◌<◌, List, [], ◌∷◌, ◌++◌, length, arith}

-- of two ways to part a list, the longer front goes on with what the shorter one leaves
unfoldable pub Longer : {X : Type 0} → (a b : List X) (x y : X) (rest_a rest_b : List X) → Type 0
Longer {X} a b x y rest_a rest_b = (mid : List X) × (b ≡ a ++ x ∷ mid) × (rest_a ≡ mid ++ y ∷ rest_b)

pub longer : {X : Type 0} (a b : List X) (x y : X) (rest_a rest_b : List X) → a ++ x ∷ rest_a ≡ b ++ y ∷ rest_b → length a < length b
    → Longer a b x y rest_a rest_b
unfolding Longer
longer [] [] x y rest_a rest_b is less = absurd (omega (arith, less))
longer [] (z ∷ b) x y rest_a rest_b is less = let same : x ≡ z = cc in let rest : rest_a ≡ b ++ y ∷ rest_b = cc in (b, cc, rest)
longer (w ∷ a) [] x y rest_a rest_b is less = absurd (omega (arith, less))
longer (w ∷ a) (z ∷ b) x y rest_a rest_b is less =
    let same : w ≡ z = cc in
    let rest : a ++ x ∷ rest_a ≡ b ++ y ∷ rest_b = cc in
    let so = longer a b x y rest_a rest_b rest (omega (arith, less)) in
    let first : z ∷ b ≡ w ∷ (a ++ x ∷ so.0) = let there = so.1 in cc in
    (so.0, first, so.2)

-- and at the same place they leave the same
pub same_place : {X : Type 0} (a b : List X) (x y : X) (rest_a rest_b : List X) → a ++ x ∷ rest_a ≡ b ++ y ∷ rest_b
    → length a ≡ length b → x ≡ y
same_place [] [] x y rest_a rest_b is same = cc
same_place [] (z ∷ b) x y rest_a rest_b is same = absurd (omega (arith, same))
same_place (w ∷ a) [] x y rest_a rest_b is same = absurd (omega (arith, same))
same_place (w ∷ a) (z ∷ b) x y rest_a rest_b is same =
    let rest : a ++ x ∷ rest_a ≡ b ++ y ∷ rest_b = cc in same_place a b x y rest_a rest_b rest (omega (arith, same))
