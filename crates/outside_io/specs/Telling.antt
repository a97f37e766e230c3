-- What is known where a disk tells its bytes.
use Rattle.std.specs.Prelude.{◌≡◌, ℕ, List, Option, Some, None, IfSome}
use Rattle.std.proofs.Common.{refl, sym, subst}
use Rattle.outside_io.specs.Disk.{Turns}

-- it holds, if it holds of the file that the disk tells
pub where_told : {A : Type 0} (o : Option A) (P : A → Type 0) → ((a : A) → o ≡ Some a → P a) → IfSome o P
where_told None P each = tt
where_told (Some a) P each = each a refl

-- what holds of the file that the disk tells
pub told : {A : Type 0} (o : Option A) (P : A → Type 0) (a : A) → o ≡ Some a → IfSome o P → P a
told o P a is if = subst (λ x. IfSome x P) is if

pub shown : {A : Type 0} (o : Option A) (P : A → Type 0) (a : A) → o ≡ Some a → P a → IfSome o P
shown o P a is p = subst (λ x. IfSome x P) (sym is) p

-- a disk that told its bytes tells the new ones
pub turned : (before after : Option (List ℕ)) (step : List ℕ → List ℕ → Type 0) (old : List ℕ) → before ≡ Some old → Turns before after step
    → (new : List ℕ) × (after ≡ Some new) × step old new
turned None after step old is turns = absurd (cc)
turned (Some file) None step old is turns = absurd turns
turned (Some file) (Some new) step old is turns = let same : file ≡ old = cc in (new, refl, subst (λ f. step f new) same turns)

-- and one that tells them told the old ones
pub turned_back : (before after : Option (List ℕ)) (step : List ℕ → List ℕ → Type 0) (new : List ℕ) → after ≡ Some new
    → Turns before after step → (old : List ℕ) × (before ≡ Some old)
turned_back None None step new is turns = absurd (cc)
turned_back None (Some file) step new is turns = absurd turns
turned_back (Some old) after step new is turns = (old, refl)
