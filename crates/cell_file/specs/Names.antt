-- Names, each different from those before it.
use Rattle.std.specs.Prelude.{codes, ◌≡◌, ◌≢◌, ℕ, if◌then◌else◌, List, [], ◌∷◌, ◌++◌, Result, Ok, Err}
use Rattle.std.specs.List.{All, AllPairs, list_any}
use Rattle.std.specs.Str.{bytes_eq}
use Rattle.cell_base.specs.Faults.{◌>>=◌, or_fault}
use Rattle.cell_base.specs.Names.{IsName, name_of}
use Rattle.cell_base.specs.declared.places.Place.{Place}
use Rattle.toml.specs.Data.{Members}
use Rattle.toml_walk.specs.Documents.{string_at}
use Rattle.cell_file.specs.declared.faults.CellFault.{CellFault}
use Rattle.cell_file.specs.declared.faults.CellFault.TheVariants.{BadName, Repeated}
use Rattle.cell_file.specs.Faults.{looked}

-- the name at the key `name`, which none of the names before it is
unfoldable pub fresh_name : Place → List (List ℕ) → Members → Result (List ℕ) CellFault
fresh_name place earlier ms = do
  text ← looked (string_at place (codes "name") ms)
  name ← or_fault (name_of text) (BadName place)
  if list_any (bytes_eq name) earlier then Err (Repeated place) else Ok name

-- the names with one more at their end, a name that none of them is
pub record IsNewName (earlier later : List (List ℕ)) (name : List ℕ) : Type 0 where
  pub named : IsName name
  pub new : All (λ n. n ≢ name) earlier
  pub last : later ≡ earlier ++ name ∷ []

-- things that each have a name, no two the same
pub record HaveNames {A : Type 0} (things : List A) (name : A → List ℕ) : Type 0 where
  pub named : All (λ x. IsName (name x)) things
  pub differ : AllPairs (λ a b. name a ≢ name b) things
