-- The number of a name, among the names and among what they name.
use Rattle.std.proofs.Common.{◌≡◌, ℕ, ◌+◌, not, cond, List, [], ◌∷◌, map, position, refl, ap}
use Rattle.std.specs.List.{position_or_len}
use Rattle.std.specs.Str.{bytes_eq}
use Rattle.std.proofs.lemmas.List.{length-map}
use Rattle.cell_base.specs.declared.cells.Resource.{Resource}
use Rattle.cell_base.specs.declared.cells.JobType.{JobType}

module _ {A : Type 0} (name : A → List ℕ) where
  first_name : (text : List ℕ) (xs : List A)
      → position_or_len (bytes_eq text) (map name xs) ≡ position_or_len (λ x. bytes_eq text (name x)) xs
  first_name text [] = refl
  first_name text (x ∷ xs) = ap (λ n. cond (not (bytes_eq text (name x))) (1 + n) 0) (first_name text xs)

  pub position_name : (text : List ℕ) (xs : List A) → position (bytes_eq text) (map name xs) ≡ position (λ x. bytes_eq text (name x)) xs
  position_name text xs = rw (first_name text xs, length-map) refl

pub position_resource : (text : List ℕ) (rs : List Resource)
    → position (bytes_eq text) (map (λ r. r.name) rs) ≡ position (λ r. bytes_eq text r.name) rs
position_resource text rs = position_name (λ (r : Resource). r.name) text rs

pub position_type : (text : List ℕ) (ts : List JobType)
    → position (bytes_eq text) (map (λ t. t.name) ts) ≡ position (λ t. bytes_eq text t.name) ts
position_type text ts = position_name (λ (t : JobType). t.name) text ts
