-- What was read by steps that may fail.
use Rattle.std.proofs.Common.{◌≡◌, ◌⊎◌, Bool, true, false, cond, List, ℕ, Option, Some, None, Result, Ok, Err, refl, inl, inr}
use Rattle.std.specs.Option.{option_map_or, option_or}
use Rattle.std.specs.Result.{result_ok}
use Rattle.std.specs.Str.{bytes_eq}
use Rattle.std.proofs.lemmas.Slice.Eq.{bytes_eq-Decides}
use Rattle.record_text.specs.Reading.{◌>>=◌}

pub bind_some : {A B : Type 0} (f : A → Option B) (o : Option A) (y : B) → (o >>= f) ≡ Some y → (x : A) × (o ≡ Some x) × (f x ≡ Some y)
bind_some f None y is = absurd cc
bind_some f (Some x) y is = (x, refl, is)

-- the one or the other
pub or_some : {A : Type 0} (o p : Option A) (x : A) → option_or o p ≡ Some x → (o ≡ Some x) ⊎ (p ≡ Some x)
or_some None p x is = inr is
or_some (Some y) p x is = inl is

pub ok_some : {A F : Type 0} (r : Result A F) (x : A) → result_ok r ≡ Some x → r ≡ Ok x
ok_some (Ok y) x is = cc
ok_some (Err fault) x is = absurd cc

pub either : {A B : Type 0} (f : A → B) (o : Option A) (d y : B) → option_map_or f o d ≡ y → ((x : A) × (o ≡ Some x) × (f x ≡ y)) ⊎ (d ≡ y)
either f None d y is = inr is
either f (Some x) d y is = inl (x, refl, is)

pub same_bytes : (xs ys : List ℕ) → bytes_eq xs ys ≡ true → xs ≡ ys
same_bytes xs ys is = (bytes_eq-Decides xs ys).0 is

pub bytes_same : (xs : List ℕ) → bytes_eq xs xs ≡ true
bytes_same xs = (bytes_eq-Decides xs xs).1 refl

-- a test of a word that a value was chosen by
pub chosen : {A : Type 0} (word key : List ℕ) (x y z : A) → cond (bytes_eq word key) x y ≡ z → ((word ≡ key) × (x ≡ z)) ⊎ (y ≡ z)
chosen word key x y z is = by (bytes_eq word key) (same_bytes word key) is where
  by : (b : Bool) → (b ≡ true → word ≡ key) → cond b x y ≡ z → ((word ≡ key) × (x ≡ z)) ⊎ (y ≡ z)
  by true same is = inl (same refl, is)
  by false same is = inr is
