-- What was given by steps of a reading that may fail.
use Rattle.std.proofs.Common.{◌≡◌, Bool, true, false, Option, Some, None, Result, Ok, Err, refl}
use Rattle.std.specs.Prelude.{if◌then◌else◌}
use Rattle.cell_base.specs.Faults.{◌>>=◌, or_fault}

pub bind_ok : {A B F : Type 0} (m : Result A F) (f : A → Result B F) (r : B) → (m >>= f) ≡ Ok r → (x : A) × (m ≡ Ok x) × (f x ≡ Ok r)
bind_ok (Ok x) f r e = (x, refl, e)
bind_ok (Err fault) f r e = absurd cc

pub or_fault_ok : {A F : Type 0} (o : Option A) (fault : F) (x : A) → or_fault o fault ≡ Ok x → o ≡ Some x
or_fault_ok (Some y) fault x e = cc
or_fault_ok None fault x e = absurd cc

pub if_some : {A : Type 0} (b : Bool) (v x : A) → (if b then Some v else None) ≡ Some x → (b ≡ true) × (v ≡ x)
if_some true v x e = (refl, cc)
if_some false v x e = absurd cc
