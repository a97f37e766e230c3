-- Names of things in a list, and one thing more at its end.
use Rattle.std.proofs.Common.{◌≡◌, ◌≢◌, ℕ, Bool, true, false, not, List, [], ◌∷◌, ◌++◌, map}
use Rattle.std.proofs.Common.{length, get_or, Bor, position, refl, sym, ap, subst, ◌∙◌}
use Rattle.std.specs.List.{All, list_any}
use Rattle.std.specs.Str.{bytes_eq}
use Rattle.std.proofs.lemmas.Bool.{false≢true}
use Rattle.std.proofs.lemmas.List.{length-map, get_or-map, map_push}
use Rattle.std.proofs.lemmas.List.Elements.{All-push}
use Rattle.std.proofs.lemmas.List.Folds.{list_any_at}
use Rattle.std.proofs.lemmas.List.Quantifiers.{all_pairs_push}
use Rattle.std.proofs.lemmas.Slice.Eq.{bytes_eq-Decides}
use Rattle.cell_base.specs.Names.{IsName}
use Rattle.cell_base.proofs.NameNumbers.{position_name}
use Rattle.toml_walk.specs.Documents.{texts}
use Rattle.cell_file.specs.Names.{IsNewName, HaveNames}

-- the number of a text among the texts
pub position_texts : (text : List ℕ) (keys : List (Bor (List ℕ)))
    → position (bytes_eq text) (texts keys) ≡ position (λ k. bytes_eq text k.now) keys
position_texts text keys = position_name (λ (key : Bor (List ℕ)). key.now) text keys

-- a text that is not among the texts
pub none_equal : (text : List ℕ) (ts : List (List ℕ)) → list_any (bytes_eq text) ts ≡ false → All (λ t. t ≢ text) ts
none_equal text ts none = λ k d within same.
    let equal = (bytes_eq-Decides text (get_or ts k d)).1 (sym same) in
    false≢true (sym none ∙ list_any_at (bytes_eq text) ts k d within equal)

pub none_added : (added found : Bool) → added ≡ not found → added ≡ true → found ≡ false
none_added added true is new = absurd (false≢true (sym is ∙ new))
none_added added false is new = refl

module _ {A : Type 0} (name : A → List ℕ) where
  pub listed_push : (names more : List (List ℕ)) (xs : List A) (x : A) → names ≡ map name xs
      → IsNewName names more (name x) → more ≡ map name (xs ++ x ∷ [])
  listed_push names more xs x listed new =
      new.last ∙ ap (λ ns. ns ++ name x ∷ []) listed ∙ sym (map_push name xs x)

  pub names_push : (names more : List (List ℕ)) (xs : List A) (x : A) → names ≡ map name xs
      → HaveNames xs name → IsNewName names more (name x) → HaveNames (xs ++ x ∷ []) name
  names_push names more xs x listed have new =
      let others : All (λ n. n ≢ name x) (map name xs) = subst (All (λ n. n ≢ name x)) listed new.new in
      record {
        named = All-push (λ y. IsName (name y)) xs x have.named new.named;
        differ = all_pairs_push (λ a b. name a ≢ name b) xs x have.differ (λ k d within same.
            others k (name d) (rw length-map within) (get_or-map name xs k d (name d) within ∙ same));
      }

-- as many texts as things
pub numbered : {A : Type 0} (name : A → List ℕ) (keys : List (Bor (List ℕ))) (xs : List A)
    → texts keys ≡ map name xs → length keys ≡ length xs
numbered name keys xs listed = sym (length-map keys (λ r. r.now)) ∙ ap length listed ∙ length-map xs name
