-- What is printed for a route is walked to the same route.
use Rattle.std.proofs.Common.{◌≡◌, ◌≢◌, ℕ, ◌-◌, ◌<◌, Bool, true, false, List, [], ◌++◌, map, length}
use Rattle.std.proofs.Common.{get_or, drop, Some, Ok, refl, sym, ap, ◌∙◌, add-zero, arith}
use Rattle.std.specs.Prelude.{if◌then◌else◌}
use Rattle.std.specs.List.{All, AllPairs, list_all, position, position_or_len}
use Rattle.std.specs.Str.{bytes_eq}
use Rattle.std.proofs.lemmas.Bool.{lt-ltb, false_from_ne_true, false≢true}
use Rattle.std.proofs.lemmas.List.{length-append, length-drop, get_or-drop, take_at, drop_at}
use Rattle.std.proofs.lemmas.List.Sums.{AllPass-from_list_all, position_or_len_is}
use Rattle.std.proofs.lemmas.Slice.Eq.{bytes_eq-Decides}
use Rattle.toml.specs.View.{items_of}
use Rattle.cell_base.specs.Names.{is_name_byte, IsName}
use Rattle.cell_base.specs.declared.cells.Step.{Step}
use Rattle.cell_base.specs.declared.places.Place.{Place}
use Rattle.cell_base.specs.declared.places.Field.TheVariants.{Route}
use Rattle.cell_base.proofs.NameTests.{letters_pass, test_passes}
use Rattle.toml_walk.specs.Documents.{string_of}
use Rattle.cell_file.specs.Faults.{in_job_type}
use Rattle.cell_file.specs.Routes.{hold, is_hold, step_of_text, step_read, next_step, route_read}
use Rattle.cell_file.specs.Printing.{step_data}
use Rattle.cell_file.proofs.Split.{each_again, at_split}

-- no name has the colon of `:hold`
colon_in : (bytes : List ℕ) (k : ℕ) → list_all is_name_byte bytes ≡ true → bytes_eq (drop k bytes) hold ≡ true → ⊥
colon_in bytes k named same =
    let is : drop k bytes ≡ hold = (bytes_eq-Decides (drop k bytes) hold).0 same in
    let moved : get_or bytes k 0 ≡ get_or (drop k bytes) 0 0 =
    sym (ap (λ n. get_or bytes n 0) (add-zero k)) ∙ sym (get_or-drop k bytes 0 0) in
    let at : get_or bytes k 0 ≡ 58 = moved ∙ ap (λ bs. get_or bs 0 0) is in
    let some : 0 < length (drop k bytes) = rw is (omega arith) in
    let within : k < length bytes = omega (arith, length-drop k bytes) in
    let passes : is_name_byte (get_or bytes k 0) ≡ true = AllPass-from_list_all is_name_byte bytes named k 0 within in
    false≢true (sym (ap is_name_byte at) ∙ passes)

plain_again : (name : List ℕ) → IsName name → is_hold name ≡ false
plain_again name named = false_from_ne_true _ (colon_in name (length name - 5) (letters_pass name named))

held_length : (name : List ℕ) → length (name ++ hold) - 5 ≡ length name
held_length name = omega (arith, length-append name hold)

held_again : (name : List ℕ) → is_hold (name ++ hold) ≡ true
held_again name = rw (held_length name, drop_at name hold (length name) refl)

-- names that are names, no two the same
module _ (names : List (List ℕ)) (named : All IsName names) (differ : AllPairs (λ (a b : List ℕ). a ≢ b) names) where
  position_again : (k : ℕ) → k < length names → position (bytes_eq (get_or names k [])) names ≡ Some k
  position_again k within =
      let name = get_or names k [] in
      let first : position_or_len (bytes_eq name) names ≡ k =
      position_or_len_is (bytes_eq name) names k [] (omega arith)
      (λ j below. false_from_ne_true _ (λ same. differ j k [] below within (sym ((bytes_eq-Decides name (get_or names j [])).0 same))))
      (λ _. (bytes_eq-Decides name name).1 refl) in
      rw (first, lt-ltb k (length names) within)

  text_again : (at : Place) (k : ℕ) (works : Bool) → k < length names
      → step_of_text at names (if works then get_or names k [] else get_or names k [] ++ hold)
      ≡ Ok (record { on = record { 0 = k }; works = works })
  unfolding step_of_text
  text_again at k true within =
      let name = get_or names k [] in
      rw (plain_again name (named k [] within), test_passes name (named k [] within), position_again k within)
  text_again at k false within =
      let name = get_or names k [] in
      let before = take_at name hold (length name) refl in
      rw (held_again name, held_length name, before, test_passes name (named k [] within), position_again k within)

  step_again : (at : Place) (step : Step) → step.on.0 < length names → step_read at names (step_data names step) ≡ Ok step
  unfolding step_read string_of step_data
  step_again at step within = text_again at step.on.0 step.works within

  pub route_again : (i : ℕ) (route : List Step) → All (λ s. s.on.0 < length names) route
      → route_read i names (items_of (map (step_data names) route)) ≡ Ok route
  route_again i route fit = each_again (next_step i names) (step_data names) [] route (λ front back s split.
      step_again (in_job_type i Route (length front)) s (at_split (λ x. x.on.0 < length names) route front back s split fit))
