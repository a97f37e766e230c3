-- Steps that may give nothing, and what holds of what they give.
use Rattle.std.proofs.Common.{◌≤◌, ℕ, Bool, true, false, List, length, Option, Some, None, option_map, IfSome}
use Rattle.std.specs.Prelude.{if◌then◌else◌, option_and_then}

-- what is given, if anything is, is such a thing
pub record Holds {A : Type 0} (Q : A → Type 0) (o : Option A) : Type 0 where
  pub of : IfSome o Q

module _ {B : Type 0} (Q : B → Type 0) where
  pub nothing : Holds Q None
  nothing = record { of = tt }

  pub something : (x : B) → Q x → Holds Q (Some x)
  something x h = record { of = h }

  pub and_then : {A : Type 0} (P : A → Type 0) (f : A → Option B) (o : Option A) → Holds P o
      → ((x : A) → P x → Holds Q (f x)) → Holds Q (option_and_then f o)
  and_then P f None h k = nothing
  and_then P f (Some x) h k = k x h.of

  pub mapped : {A : Type 0} (P : A → Type 0) (f : A → B) (o : Option A) → Holds P o
      → ((x : A) → P x → Q (f x)) → Holds Q (option_map f o)
  mapped P f None h k = nothing
  mapped P f (Some x) h k = something (f x) (k x h.of)

  pub mapped_any : {A : Type 0} (f : A → B) (o : Option A) → ((x : A) → Q (f x)) → Holds Q (option_map f o)
  mapped_any f None k = nothing
  mapped_any f (Some x) k = something (f x) (k x)

  pub either : (b : Bool) (x y : Option B) → Holds Q x → Holds Q y → Holds Q (if b then x else y)
  either true x y one other = one
  either false x y one other = other

-- what is given is also of a wider kind
pub weaker : {A : Type 0} (P Q : A → Type 0) (o : Option A) → ((x : A) → P x → Q x) → Holds P o → Holds Q o
weaker P Q None k h = nothing Q
weaker P Q (Some x) k h = something Q x (k x h.of)

pub either_le : (b : Bool) (x y : List ℕ) (n : ℕ) → length x ≤ n → length y ≤ n → length (if b then x else y) ≤ n
either_le true x y n one other = one
either_le false x y n one other = other
