-- What is printed for successors is walked to the same successors.
use Rattle.std.proofs.Common.{◌≡◌, ℕ, ◌+◌, ◌-◌, ◌<◌, ◌≤◌, true, pos, List, [], ◌∷◌, ◌++◌}
use Rattle.std.proofs.Common.{map, length, get_or, Some, Ok, refl, subst, eq-eqb, arith}
use Rattle.std.specs.List.Sorted.{IsStrictlyIncreasing}
use Rattle.std.proofs.lemmas.Bool.{le-leb, le-ltb}
use Rattle.std.proofs.lemmas.List.{length-append, get_or_append_left}
use Rattle.std.proofs.Math.Seq.{get_or-append_seam}
use Rattle.toml.specs.View.{items_of}
use Rattle.cell_base.specs.Fits.{NextFits, EachNextFits}
use Rattle.cell_base.specs.declared.places.Place.{Place}
use Rattle.cell_base.specs.declared.places.Field.TheVariants.{Next}
use Rattle.toml_walk.specs.Documents.{all_items, array_of, at_most, number_within, number_of}
use Rattle.cell_file.specs.Faults.{in_job_type}
use Rattle.cell_file.specs.Successors.{last_or, is_integer, next_successor, successors_in, successors_of, next_place, next_in, next_read}
use Rattle.cell_file.specs.Printing.{number_data, array_data}
use Rattle.cell_file.proofs.Split.{each_again, at_split, count_again}

integers_again : (ns : List ℕ) → all_items is_integer (items_of (map number_data ns)) ≡ true
integers_again [] = refl
integers_again (n ∷ ns) = integers_again ns

last_or_is : (place m : ℕ) (ms : List ℕ) → last_or place (m ∷ ms) ≡ get_or (m ∷ ms) (length ms) 0
last_or_is place m [] = refl
last_or_is place m (n ∷ ms) = last_or_is m n ms

-- numbers that rise: each is above the last before it
last_below : (place n : ℕ) (front back : List ℕ) → IsStrictlyIncreasing (front ++ n ∷ back) → place < n
    → last_or place front < n
last_below place n [] back rises above = above
last_below place n (m ∷ ms) back rises above =
    let all = (m ∷ ms) ++ n ∷ back in
    let within : length ms + 1 < length all = omega (arith, length-append (m ∷ ms) (n ∷ back)) in
    let next : length ms + 1 ≡ length (m ∷ ms) = omega arith in
    let left : get_or all (length ms) 0 ≡ get_or (m ∷ ms) (length ms) 0 =
    get_or_append_left (m ∷ ms) (n ∷ back) 0 (length ms) (omega arith) in
    let right : get_or all (length ms + 1) 0 ≡ n = rw next (get_or-append_seam (m ∷ ms) n back 0) in
    omega (arith, rises (length ms) within, left, right, last_or_is place m ms)

number_again : (place : Place) (low high n : ℕ) → low ≤ n → n ≤ high → number_within place low high (pos n) ≡ Ok n
unfolding number_within
number_again place low high n l h = rw (le-leb low n l, le-leb n high h)

successor_again : (at : Place) (place places n : ℕ) (front back : List ℕ) → IsStrictlyIncreasing (front ++ n ∷ back)
    → place < n → n < places → next_successor at place places front (number_data n) ≡ Ok n
unfolding number_of
successor_again at place places n front back rises above below =
    let low : last_or place front + 1 ≤ n = omega (arith, last_below place n front back rises above) in
    rw (number_again at (last_or place front + 1) (places - 1) n low (omega arith))

successors_again : (at : Place) (place places : ℕ) (ns : List ℕ) → NextFits places place ns
    → successors_of at place places (array_data number_data ns) ≡ Ok ns
unfolding successors_of array_of successors_in at_most
successors_again at place places ns fits =
    rw (count_again number_data ns, le-ltb 8 (length ns) fits.branches, integers_again ns)
    (each_again (next_successor at place places) number_data [] ns (λ front back n split.
    let later = at_split (λ m. (place < m) × (m < places)) ns front back n split fits.later in
    successor_again at place places n front back (subst IsStrictlyIncreasing split fits.rising) later.0 later.1))

pub next_again : (i places : ℕ) (next : List (List ℕ)) → length next ≡ places → EachNextFits places next
    → next_read i places (Some (array_data (array_data number_data) next)) ≡ Ok next
unfolding next_read array_of next_in
next_again i places next complete fit =
    rw (count_again (array_data number_data) next, complete, eq-eqb places places refl)
    (each_again (next_place i places) (array_data number_data) [] next (λ front back ns split.
    let within : length front < length next = rw split (omega (arith, length-append front (ns ∷ back))) in
    let here : get_or next (length front) [] ≡ ns = rw split (get_or-append_seam front ns back []) in
    let fits = subst (NextFits places (length front)) here (fit (length front) within) in
    successors_again (in_job_type i Next (length front)) (length front) places ns fits))
