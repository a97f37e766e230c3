-- Names of a cell and their numbers, both ways.
use Rattle.std.proofs.Common.{◌≡◌, ◌≢◌, ℕ, zero, suc, ◌<◌, true, false, List, [], ◌∷◌, map, length}
use Rattle.std.proofs.Common.{get_or, Ok, Some, position, refl, sym, subst, ◌∙◌, arith}
use Rattle.std.specs.List.{All, AllPairs, position_or_len, slice_get}
use Rattle.std.specs.Option.{option_map_or}
use Rattle.std.specs.Str.{bytes_eq}
use Rattle.std.proofs.lemmas.Bool.{lt-ltb}
use Rattle.std.proofs.lemmas.List.{length-map, get_or-map}
use Rattle.std.proofs.lemmas.List.Quantifiers.{position-Some}
use Rattle.std.proofs.lemmas.List.Sums.{position_or_len_is}
use Rattle.std.proofs.lemmas.Slice.Eq.{bytes_eq-Decides}
use Rattle.cell_base.specs.declared.cells.Cell.{Cell}
use Rattle.cell_base.specs.declared.cells.Resource.{Resource}
use Rattle.cell_base.specs.declared.cells.JobType.{JobType}
use Rattle.cell_base.specs.Faults.{or_fault}
use Rattle.cell_base.specs.Fits.{CellFits}
use Rattle.cell_base.specs.Named.{resource_names, type_names, resource_name, type_name}
use Rattle.cell_base.specs.Names.{IsName, is_name, name_of}
use Rattle.cell_base.proofs.NameTests.{test_passes}
use Rattle.step_text.specs.declared.faults.StepFault.TheVariants.{BadStep, UnknownName}
use Rattle.step_text.specs.Steps.{number_of_name}
use Rattle.step_text.proofs.Chains.{bind_ok, or_fault_ok, if_some}

-- ---- among any names

-- the names are names, and differ
record AreNames (names : List (List ℕ)) : Type 0 where
  spelled : (k : ℕ) → k < length names → IsName (get_or names k [])
  differ : (i j : ℕ) → i < j → j < length names → get_or names i [] ≢ get_or names j []

differs : (a b : List ℕ) → a ≢ b → bytes_eq a b ≡ false
differs a b ne = elim (bytes_eq a b) as (λ t. t ≡ bytes_eq a b → bytes_eq a b ≡ false) [
  | true ↦ λ e. absurd (ne ((bytes_eq-Decides a b).0 (sym e)))
  | false ↦ λ e. sym e
] refl

-- a word is found at the number whose name it is
found_at : (names : List (List ℕ)) (word : List ℕ) (k : ℕ) → AreNames names → k < length names → get_or names k [] ≡ word
    → position (bytes_eq word) names ≡ Some k
found_at names word k are within is =
    let first : position_or_len (bytes_eq word) names ≡ k =
    position_or_len_is (bytes_eq word) names k [] (omega arith)
    (λ i lt. differs word (get_or names i []) (λ e. are.differ i k lt within (sym e ∙ sym is)))
    (λ _. (bytes_eq-Decides word (get_or names k [])).1 (sym is)) in
    rw (first, lt-ltb k (length names) within) refl

-- a name is read as its number
name_again : (names : List (List ℕ)) (k : ℕ) → AreNames names → k < length names → number_of_name names (get_or names k []) ≡ Ok k
unfolding number_of_name
name_again names k are within =
    rw (test_passes (get_or names k []) (are.spelled k within), found_at names (get_or names k []) k are within refl) refl

-- a word that stands among names is a name
name_among : (names : List (List ℕ)) (word : List ℕ) (k : ℕ) → AreNames names → position (bytes_eq word) names ≡ Some k → IsName word
name_among names word k are found =
    let at = position-Some (bytes_eq word) names k [] found in
    subst IsName (sym ((bytes_eq-Decides word (get_or names k [])).0 at.1)) (are.spelled k at.0)

-- its number is the number of that name
found_name : (names : List (List ℕ)) (word : List ℕ) (k : ℕ) → AreNames names → position (bytes_eq word) names ≡ Some k
    → number_of_name names word ≡ Ok k
unfolding number_of_name
found_name names word k are found = rw (test_passes word (name_among names word k are found), found) refl

-- a word that is read as a number is the name of that number
pub record IsNameAt (names : List (List ℕ)) (k : ℕ) (word : List ℕ) : Type 0 where
  pub within : k < length names
  pub is : get_or names k [] ≡ word

name_back : (names : List (List ℕ)) (word : List ℕ) (k : ℕ) → number_of_name names word ≡ Ok k → IsNameAt names k word
unfolding number_of_name
name_back names word k e =
    let read = bind_ok (or_fault (name_of word) BadStep) (λ name. or_fault (position (bytes_eq name) names) UnknownName) k e in
    let same = if_some (is_name word) word read.0 (or_fault_ok (name_of word) BadStep read.0 read.1) in
    let found = position-Some (bytes_eq read.0) names k [] (or_fault_ok (position (bytes_eq read.0) names) UnknownName k read.2) in
    record { within = found.0; is = sym ((bytes_eq-Decides read.0 (get_or names k [])).0 found.1) ∙ sym same.1 }

-- ---- among the names of things that have one

module _ {A : Type 0} (name : A → List ℕ) where
  -- the name of the thing of a number is the name of that number
  name_listed : (xs : List A) (k : ℕ) → option_map_or name (slice_get xs k) [] ≡ get_or (map name xs) k []
  name_listed [] k = refl
  name_listed (x ∷ xs) zero = refl
  name_listed (x ∷ xs) (suc k) = name_listed xs k

  name_at : (x : A) (xs : List A) (k : ℕ) → k < length (x ∷ xs) → get_or (map name (x ∷ xs)) k [] ≡ name (get_or (x ∷ xs) k x)
  name_at x xs k within = get_or-map name (x ∷ xs) k x [] within

  are_names : (xs : List A) → All (λ x. IsName (name x)) xs → AllPairs (λ a b. name a ≢ name b) xs → AreNames (map name xs)
  are_names [] spelled differ = record {
    spelled = λ k within. absurd (omega (arith, within));
    differ = λ i j lt within. absurd (omega (arith, within));
  }
  are_names (x ∷ xs) spelled differ = record {
    spelled = λ k within. let inside : k < length (x ∷ xs) = rw length-map at within in rw (name_at x xs k inside) (spelled k x inside);
    differ = λ i j lt within.
        let inside : j < length (x ∷ xs) = rw length-map at within in
        rw (name_at x xs i (omega (arith, lt, inside)), name_at x xs j inside) (differ i j x lt inside);
  }

  spelled_at : (xs : List A) (k : ℕ) → AreNames (map name xs) → k < length xs → IsName (option_map_or name (slice_get xs k) [])
  spelled_at xs k are within = rw (name_listed xs k) (are.spelled k (rw length-map within))

  listed_again : (xs : List A) (k : ℕ) → AreNames (map name xs) → k < length xs
      → number_of_name (map name xs) (option_map_or name (slice_get xs k) []) ≡ Ok k
  listed_again xs k are within = rw (name_listed xs k) (name_again (map name xs) k are (rw length-map within))

  listed_at : (xs : List A) (word : List ℕ) (k : ℕ) → AreNames (map name xs) → k < length xs
      → option_map_or name (slice_get xs k) [] ≡ word → position (bytes_eq word) (map name xs) ≡ Some k
  listed_at xs word k are within is = found_at (map name xs) word k are (rw length-map within) (sym (name_listed xs k) ∙ is)

  listed_back : (xs : List A) (word : List ℕ) (k : ℕ)
      → number_of_name (map name xs) word ≡ Ok k → (k < length xs) × (option_map_or name (slice_get xs k) [] ≡ word)
  listed_back xs word k e =
      let name_is = name_back (map name xs) word k e in
      (rw length-map at name_is.within, name_listed xs k ∙ name_is.is)

-- ---- in a cell

module _ (cell : Cell) (fits : CellFits cell) where
  resources_are : AreNames (resource_names cell.resources)
  resources_are = are_names (λ (r : Resource). r.name) cell.resources fits.named.resources fits.resource_names

  types_are : AreNames (type_names cell.types)
  types_are = are_names (λ (t : JobType). t.name) cell.types fits.named.types fits.type_names

  pub resource_named : (k : ℕ) → k < length cell.resources → IsName (resource_name cell k)
  resource_named k within = spelled_at (λ (r : Resource). r.name) cell.resources k resources_are within

  pub type_named : (k : ℕ) → k < length cell.types → IsName (type_name cell k)
  type_named k within = spelled_at (λ (t : JobType). t.name) cell.types k types_are within

  pub resource_at : (word : List ℕ) (k : ℕ) → k < length cell.resources → resource_name cell k ≡ word
      → position (bytes_eq word) (resource_names cell.resources) ≡ Some k
  resource_at word k within is = listed_at (λ (r : Resource). r.name) cell.resources word k resources_are within is

  pub type_at : (word : List ℕ) (k : ℕ) → k < length cell.types → type_name cell k ≡ word
      → position (bytes_eq word) (type_names cell.types) ≡ Some k
  type_at word k within is = listed_at (λ (t : JobType). t.name) cell.types word k types_are within is

  pub type_among : (word : List ℕ) (k : ℕ) → position (bytes_eq word) (type_names cell.types) ≡ Some k → IsName word
  type_among word k found = name_among _ word k types_are found

  pub resource_found : (word : List ℕ) (k : ℕ) → position (bytes_eq word) (resource_names cell.resources) ≡ Some k
      → number_of_name (resource_names cell.resources) word ≡ Ok k
  resource_found word k found = found_name _ word k resources_are found

  pub type_found : (word : List ℕ) (k : ℕ) → position (bytes_eq word) (type_names cell.types) ≡ Some k
      → number_of_name (type_names cell.types) word ≡ Ok k
  type_found word k found = found_name _ word k types_are found

  pub resource_again : (k : ℕ) → k < length cell.resources → number_of_name (resource_names cell.resources) (resource_name cell k) ≡ Ok k
  resource_again k within = listed_again (λ (r : Resource). r.name) cell.resources k resources_are within

  pub type_again : (k : ℕ) → k < length cell.types → number_of_name (type_names cell.types) (type_name cell k) ≡ Ok k
  type_again k within = listed_again (λ (t : JobType). t.name) cell.types k types_are within

pub resource_back : (cell : Cell) (word : List ℕ) (k : ℕ)
    → number_of_name (resource_names cell.resources) word ≡ Ok k → (k < length cell.resources) × (resource_name cell k ≡ word)
resource_back cell word k e = listed_back (λ (r : Resource). r.name) cell.resources word k e

pub type_back : (cell : Cell) (word : List ℕ) (k : ℕ)
    → number_of_name (type_names cell.types) word ≡ Ok k → (k < length cell.types) × (type_name cell k ≡ word)
type_back cell word k e = listed_back (λ (t : JobType). t.name) cell.types word k e
