-- What holds of an element of a list, between those before it and those after it.
use Rattle.std.proofs.Common.{◌≡◌, ◌≢◌, ℕ, ◌<◌, false, List, [], ◌∷◌, ◌++◌, map, length, get_or}
use Rattle.std.proofs.Common.{Result, Ok, refl, sym, ap, subst, ◌∙◌, append_assoc, arith}
use Rattle.std.specs.List.{All, AllPairs, list_any}
use Rattle.std.specs.Str.{bytes_eq}
use Rattle.std.proofs.lemmas.Bool.{false_from_ne_true}
use Rattle.std.proofs.lemmas.List.{append-nil, length-append, length-map, get_or-map, get_or_append_left}
use Rattle.std.proofs.lemmas.List.Folds.{list_any_none}
use Rattle.std.proofs.lemmas.Slice.Eq.{bytes_eq-Decides}
use Rattle.std.proofs.Math.Seq.{get_or-append_seam}
use Rattle.toml.specs.Data.{Data}
use Rattle.toml.specs.View.{items_of}
use Rattle.toml_walk.specs.Widths.{item_count}
use Rattle.toml_walk.specs.Documents.{each}
use Rattle.cell_file.specs.declared.faults.CellFault.{CellFault}

-- where each element in turn gives the value that it was printed for, the whole does
pub each_again : {A : Type 0} (step : List A → Data → Result A CellFault) (data_of : A → Data) (earlier rest : List A)
    → ((front back : List A) (x : A) → earlier ++ rest ≡ front ++ x ∷ back → step front (data_of x) ≡ Ok x)
    → each step earlier (items_of (map data_of rest)) ≡ Ok (earlier ++ rest)
each_again step data_of earlier [] again = ap Ok (sym (append-nil earlier))
each_again step data_of earlier (x ∷ rest) again =
    let regrouped : (earlier ++ x ∷ []) ++ rest ≡ earlier ++ x ∷ rest = append_assoc earlier (x ∷ []) rest in
    let others = each_again step data_of (earlier ++ x ∷ []) rest (λ front back y e. again front back y (sym regrouped ∙ e)) in
    rw (again earlier rest x refl) (others ∙ ap Ok regrouped)

pub count_again : {A : Type 0} (data_of : A → Data) (xs : List A) → item_count (items_of (map data_of xs)) ≡ length xs
count_again data_of [] = refl
count_again data_of (x ∷ xs) = omega (arith, count_again data_of xs)

pub at_split : {A : Type 0} (P : A → Type 0) (all front back : List A) (x : A) → all ≡ front ++ x ∷ back → All P all → P x
at_split P all front back x split h =
    let within : length front < length all = rw split (omega (arith, length-append front (x ∷ back))) in
    let here : get_or all (length front) x ≡ x = rw split (get_or-append_seam front x back x) in
    subst P here (h (length front) x within)

-- the name of an element is not among those before it
pub not_before : {A : Type 0} (name : A → List ℕ) (all front back : List A) (x : A) → all ≡ front ++ x ∷ back
    → AllPairs (λ a b. name a ≢ name b) all → list_any (bytes_eq (name x)) (map name front) ≡ false
not_before name all front back x split differ =
    let apart : AllPairs (λ a b. name a ≢ name b) (front ++ x ∷ back) = subst (AllPairs (λ a b. name a ≢ name b)) split differ in
    list_any_none (bytes_eq (name x)) (map name front) (λ k d within. false_from_ne_true _ (λ same.
    let k_lt : k < length front = rw (← length-map front name) within in
    let j_lt : length front < length (front ++ x ∷ back) = omega (arith, length-append front (x ∷ back)) in
    let equal = (bytes_eq-Decides (name x) (get_or (map name front) k d)).0 same in
    let is : name x ≡ name (get_or front k x) = equal ∙ get_or-map name front k x d k_lt in
    let left : get_or (front ++ x ∷ back) k x ≡ get_or front k x = get_or_append_left front (x ∷ back) x k k_lt in
    let right : get_or (front ++ x ∷ back) (length front) x ≡ x = get_or-append_seam front x back x in
    apart k (length front) x k_lt j_lt (ap name left ∙ sym is ∙ ap name (sym right))))
