-- An element that comes before all, in an order that is total and transitive.
use Rattle.std.proofs.Common.{◌≡◌, Bool, true, false, List, [], ◌∷◌, Contains, subst, ⊎_elim}
use Rattle.std.proofs.lemmas.Bool.{cases_Bool}
use Rattle.lists.proofs.Elements.{Contains-head, Contains-tail, Contains-none, Contains-cases}

-- the element stands in the list, and comes before each of its elements
pub record IsLeast {X : Type 0} (before : X → X → Bool) (xs : List X) (m : X) : Type 0 where
  pub stands : Contains xs m
  pub first : (y : X) → Contains xs y → before m y ≡ true

-- where of two elements one comes before the other, and so on, a list that is not empty has one
module _ {X : Type 0} (before : X → X → Bool) (total : (a b : X) → before a b ≡ false → before b a ≡ true)
    (transitive : (a b c : X) → before a b ≡ true → before b c ≡ true → before a c ≡ true) where
  before_itself : (x : X) → before x x ≡ true
  before_itself x = ⊎_elim (λ e. e) (total x x) (cases_Bool (before x x))

  least_added : (x : X) (xs : List X) (m : X) → before m x ≡ true → ((y : X) → Contains xs y → before m y ≡ true) → (y : X)
      → Contains (x ∷ xs) y → before m y ≡ true
  least_added x xs m here behind y c = ⊎_elim (λ same. subst (λ z. before m z ≡ true) same here) (behind y) (Contains-cases x y xs c)

  pub least : (x : X) (xs : List X) → (m : X) × IsLeast before (x ∷ xs) m
  least x [] = (x, record { stands = Contains-head x []; first = least_added x [] x (before_itself x) (λ y c. absurd (Contains-none y c)) })
  least x (y ∷ ys) = ⊎_elim (this (least y ys)) (other (least y ys)) (cases_Bool (before x (least y ys).0))
    where
      this : (rest : (m : X) × IsLeast before (y ∷ ys) m) → before x rest.0 ≡ true → (m : X) × IsLeast before (x ∷ y ∷ ys) m
      this rest e = (
        x,
        record {
          stands = Contains-head x (y ∷ ys);
          first = least_added x (y ∷ ys) x (before_itself x) (λ z c. transitive x rest.0 z e (rest.1.first z c));
        },
      )

      other : (rest : (m : X) × IsLeast before (y ∷ ys) m) → before x rest.0 ≡ false → (m : X) × IsLeast before (x ∷ y ∷ ys) m
      other rest e = (
        rest.0,
        record {
          stands = Contains-tail x rest.0 (y ∷ ys) rest.1.stands;
          first = least_added x (y ∷ ys) rest.0 (total x rest.0 e) rest.1.first;
        },
      )
