-- The views after a step.
use Rattle.std.proofs.Common.{◌≡◌, ◌≢◌, ◌⊎◌, inl, inr, ⊎_elim, ℕ, zero, suc, ◌<◌, ◌≤◌, List, []}
use Rattle.std.proofs.Common.{◌∷◌, ◌++◌, length, set, refl, sym, ◌∙◌, subst, lt_of_not-le, arith}
use native.Mathlib.Decide.{dec_le}
use mathlib.Core.Option.{some, some-injective, some-ne-none}
use lib.ListN.{get_elem?}
use Rattle.atomic_table.proofs.Lists.{at_set}
use Rattle.cell_base.specs.declared.shifts.Entry.{Entry}
use Rattle.cell_lock.specs.declared.board.Opening.{Opening}
use Rattle.cell_lock.specs.declared.board.View.{View}
use Rattle.cell_lock.specs.Law.{Has, Apart, Knows, AllKnow}

pub below : {A : Type 0} (l : List A) (i : ℕ) (a : A) → get_elem? l i ≡ some a → i < length l
below [] i a e = absurd (some-ne-none a (sym e))
below (x ∷ xs) zero a e = omega arith
below (x ∷ xs) (suc i) a e = omega (arith, below xs i a e)

pub at_end : {A : Type 0} (l : List A) (a b : A) (j : ℕ) → get_elem? (l ++ a ∷ []) j ≡ some b
    → (get_elem? l j ≡ some b) ⊎ ((j ≡ length l) × (a ≡ b))
at_end [] a b zero e = inr (refl, some-injective a b e)
at_end [] a b (suc j) e = absurd (some-ne-none b (sym e))
at_end (x ∷ xs) a b zero e = inl e
at_end (x ∷ xs) a b (suc j) e = ⊎_elim (λ t. inl t) (λ t. inr (omega arith, t.1)) (at_end xs a b j e)

module _ {D : Type 0} (opening : Opening D) (log : List Entry) (views : List (View D)) where
  pub each_set : (id : ℕ) (w : View D) → Knows opening log w
      → ((i : ℕ) (v : View D) → i ≢ id → get_elem? views i ≡ some v → Knows opening log v) → AllKnow opening log (set views id w)
  each_set id w mine others i v e =
      ⊎_elim (λ t. subst (Knows opening log) t.1 mine) (λ t. others i v t.0 t.1) (at_set views id i w v e)

  pub each_end : (w : View D) → Knows opening log w → AllKnow opening log views → AllKnow opening log (views ++ w ∷ [])
  each_end w mine others i v e =
      ⊎_elim (λ t. others i v t) (λ t. subst (Knows opening log) t.1 mine) (at_end views w v i e)

-- each number that a view has, it had before
pub apart_by : {D : Type 0} (views views' : List (View D))
    → ((i k : ℕ) (a : View D) → get_elem? views' i ≡ some a → Has a k → (b : View D) × (get_elem? views i ≡ some b) × Has b k)
    → Apart views → Apart views'
apart_by views views' source apart i j k v w ev ew hv hw =
    let a = source i k v ev hv in
    let b = source j k w ew hw in
    apart i j k a.0 b.0 a.1 b.1 a.2 b.2

module _ {D : Type 0} (views : List (View D)) (id : ℕ) (v : View D) (at : get_elem? views id ≡ some v) where
  had : {k : ℕ} (u x : View D) → u ≡ x → Has x k → Has u k
  had {k} u x e h = subst (λ (y : View D). Has y k) (sym e) h

  pub apart_set : (w : View D) → ((k : ℕ) → Has w k → Has v k) → Apart views → Apart (set views id w)
  apart_set w less apart = apart_by views (set views id w) source apart
    where
      source : (i k : ℕ) (a : View D) → get_elem? (set views id w) i ≡ some a → Has a k
          → (b : View D) × (get_elem? views i ≡ some b) × Has b k
      source i k a e h = ⊎_elim
          (λ (t : (i ≡ id) × (w ≡ a)). (v, subst (λ (x : ℕ). get_elem? views x ≡ some v) (sym t.0) at, less k (had w a t.1 h)))
          (λ (t : (i ≢ id) × (get_elem? views i ≡ some a)). (a, t.1, h)) (at_set views id i w a e)

  -- a view cut in two has its numbers in one of the two
  pub dealt : (left right : View D) → ((k : ℕ) → Has left k → Has v k) → ((k : ℕ) → Has right k → Has v k)
      → ((k : ℕ) → Has left k → Has right k → ⊥) → Apart views → Apart (set views id left ++ right ∷ [])
  dealt left right l r never apart i j k a b ea eb ha hb = ⊎_elim
      (λ (x : (i ≡ id) × (left ≡ a)). ⊎_elim
      (λ (y : (j ≡ id) × (left ≡ b)). x.0 ∙ sym y.0)
      (λ z. ⊎_elim
      (λ (y : (j ≢ id) × (get_elem? views j ≡ some b)). absurd (y.0 (sym (apart id j k v b at y.1 (l k (had left a x.1 ha)) hb))))
      (λ (y : (j ≡ N) × (right ≡ b)). absurd (never k (had left a x.1 ha) (had right b y.1 hb))) z)
      (from j b eb))
      (λ w. ⊎_elim
      (λ (x : (i ≢ id) × (get_elem? views i ≡ some a)). ⊎_elim
      (λ (y : (j ≡ id) × (left ≡ b)). absurd (x.0 (apart i id k a v x.1 at ha (l k (had left b y.1 hb)))))
      (λ z. ⊎_elim
      (λ (y : (j ≢ id) × (get_elem? views j ≡ some b)). apart i j k a b x.1 y.1 ha hb)
      (λ (y : (j ≡ N) × (right ≡ b)). absurd (x.0 (apart i id k a v x.1 at ha (r k (had right b y.1 hb))))) z)
      (from j b eb))
      (λ (x : (i ≡ N) × (right ≡ a)). ⊎_elim
      (λ (y : (j ≡ id) × (left ≡ b)). absurd (never k (had left b y.1 hb) (had right a x.1 ha)))
      (λ z. ⊎_elim
      (λ (y : (j ≢ id) × (get_elem? views j ≡ some b)). absurd (y.0 (sym (apart id j k v b at y.1 (r k (had right a x.1 ha)) hb))))
      (λ (y : (j ≡ N) × (right ≡ b)). x.0 ∙ sym y.0) z)
      (from j b eb)) w)
      (from i a ea)
    where
      N : ℕ
      N = length (set views id left)

      From : ℕ → View D → Type 0
      From m u = ((m ≡ id) × (left ≡ u)) ⊎ (((m ≢ id) × (get_elem? views m ≡ some u)) ⊎ ((m ≡ N) × (right ≡ u)))

      from : (m : ℕ) (u : View D) → get_elem? (set views id left ++ right ∷ []) m ≡ some u → From m u
      from m u e = ⊎_elim (λ t. ⊎_elim (λ z. inl z) (λ z. inr (inl z)) (at_set views id m left u t)) (λ t. inr (inr t))
          (at_end (set views id left) right u m e)

  -- two views made one have their numbers in one place
  pub merged : (other : ℕ) (w both left : View D) → get_elem? views other ≡ some w → ((k : ℕ) → Has both k → Has v k ⊎ Has w k)
      → ((k : ℕ) → Has left k → ⊥) → Apart views → Apart (set (set views id both) other left)
  merged other w both left at_other split empty apart i j k a b ea eb ha hb = ⊎_elim
      (λ (x : (i ≡ id) × (both ≡ a)). ⊎_elim
      (λ (y : (j ≡ id) × (both ≡ b)). x.0 ∙ sym y.0)
      (λ (y : (j ≢ id) × (j ≢ other) × (get_elem? views j ≡ some b)). ⊎_elim
      (λ h. absurd (y.0 (sym (apart id j k v b at y.2 h hb)))) (λ h. absurd (y.1 (sym (apart other j k w b at_other y.2 h hb))))
      (split k (had both a x.1 ha)))
      (from j b eb hb))
      (λ (x : (i ≢ id) × (i ≢ other) × (get_elem? views i ≡ some a)). ⊎_elim
      (λ (y : (j ≡ id) × (both ≡ b)). ⊎_elim
      (λ h. absurd (x.0 (apart i id k a v x.2 at ha h))) (λ h. absurd (x.1 (apart i other k a w x.2 at_other ha h)))
      (split k (had both b y.1 hb)))
      (λ (y : (j ≢ id) × (j ≢ other) × (get_elem? views j ≡ some b)). apart i j k a b x.2 y.2 ha hb)
      (from j b eb hb))
      (from i a ea ha)
    where
      From : ℕ → View D → Type 0
      From m u = ((m ≡ id) × (both ≡ u)) ⊎ ((m ≢ id) × (m ≢ other) × (get_elem? views m ≡ some u))

      from : (m : ℕ) (u : View D) → get_elem? (set (set views id both) other left) m ≡ some u → Has u k → From m u
      from m u e h = ⊎_elim (λ t. absurd (empty k (had left u t.1 h)))
          (λ t. ⊎_elim (λ z. inl z) (λ z. inr (z.0, t.0, z.1)) (at_set views id m both u t.1))
          (at_set (set views id both) other m left u e)

pub split_at : (j n : ℕ) → (j < n) ⊎ (n ≤ j)
split_at j n = elim (dec_le n j) as (λ _. (j < n) ⊎ (n ≤ j)) [ yes h ↦ inr h | no h ↦ inl (lt_of_not-le h) ]
