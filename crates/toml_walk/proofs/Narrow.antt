-- What is found in data is no wider than the data.
use Rattle.std.proofs.Common.{◌≡◌, ℕ, ◌<◌, ◌≤◌, zero, suc, List, [], ◌∷◌, length, get_or, Option, Some, None, option_map}
use Rattle.std.proofs.Common.{IfSome, Bor, Ordering, Less, Equal, Greater, refl, sym, ap, subst, arith}
use Rattle.std.specs.Ordering.{nat_cmp, match_ordering}
use Rattle.std.specs.Cmp.Lexicographic.{slice_cmp}
use Rattle.toml.specs.Data.{Data, string, integer, float, boolean, datetime, array, table, Items}
use Rattle.toml.specs.Data.{Members, no_members, member, get_member, as_array, as_table}
use Rattle.toml.specs.View.{view, items_view}
use Rattle.toml.specs.declared.value.Value.{Value}
use Rattle.toml_walk.specs.Widths.{item_count, width, items_width, members_width}

pub count_of_items : (vs : List Value) → item_count (items_view vs) ≡ length vs
count_of_items [] = refl
count_of_items (v ∷ vs) = omega (arith, count_of_items vs)

-- the table that a value is
pub table_narrow : (d : Data) (ms : Members) → Some ms ≡ as_table d → members_width ms ≤ width d
table_narrow (table ms') ms is =
    let e : ms ≡ ms' = cc in
    let same : members_width ms' ≤ members_width ms' = omega arith in
    subst (λ (x : Members). members_width x ≤ members_width ms') (sym e) same
table_narrow (string s) ms is = absurd cc
table_narrow (integer z) ms is = absurd cc
table_narrow (float x) ms is = absurd cc
table_narrow (boolean b) ms is = absurd cc
table_narrow (datetime dt) ms is = absurd cc
table_narrow (array ds) ms is = absurd cc

-- the array that a value is
array_is : (d : Data) (ds : Items) → Some ds ≡ as_array d → d ≡ array ds
array_is (array ds') ds is = let e : ds' ≡ ds = cc in ap array e
array_is (table ms) ds is = absurd cc
array_is (string s) ds is = absurd cc
array_is (integer z) ds is = absurd cc
array_is (float x) ds is = absurd cc
array_is (boolean b) ds is = absurd cc
array_is (datetime dt) ds is = absurd cc

pub array_short : (d : Data) (vs : List Value) → Some (items_view vs) ≡ as_array d → length vs ≤ width d
array_short d vs is = rw (array_is d (items_view vs) is) (omega (arith, count_of_items vs))

pub array_narrow : (d : Data) (ds : Items) → Some ds ≡ as_array d → items_width ds ≤ width d
array_narrow d ds is = rw (array_is d ds is) (omega arith)

-- an array is as wide at least as it is long, and as its elements are together
pub ruleset array_laws = (array_short, array_narrow)

-- the value at a key
by_order : (o : Ordering) (before : Option Data) (here : Data) (behind : Option Data) (d : Data) (n : ℕ)
    → Some d ≡ match_ordering o before (Some here) behind → (Some d ≡ before → width d ≤ n) → width here ≤ n
    → (Some d ≡ behind → width d ≤ n) → width d ≤ n
by_order Less before here behind d n is one two three = one is
by_order Equal before here behind d n is one two three = let e : here ≡ d = cc in subst (λ (x : Data). width x ≤ n) e two
by_order Greater before here behind d n is one two three = three is

pub member_narrow : (key : List ℕ) (ms : Members) (d : Data) → Some d ≡ get_member key ms → width d ≤ members_width ms
member_narrow key no_members d is = absurd cc
member_narrow key (member other here ms) d is =
    let behind : Some d ≡ get_member key ms → width d ≤ members_width (member other here ms) =
    λ e. omega (arith, member_narrow key ms d e) in
    by_order (slice_cmp nat_cmp key other) (get_member key ms) here (get_member key ms) d _ is behind (omega arith) behind

-- an element of an array
pub element_narrow : (vs : List Value) (i : ℕ) (v : Value) → i < length vs → v ≡ get_or vs i v
    → width (view v) ≤ items_width (items_view vs)
element_narrow [] i v within is = absurd (omega arith)
element_narrow (w ∷ vs) zero v within is = rw is (omega arith)
element_narrow (w ∷ vs) (suc i) v within is =
    let h = element_narrow vs i v (omega arith) is in
    omega (arith, h)

pub found_narrow : (o : Option (Bor Value)) (key : List ℕ) (ms : Members) → option_map (λ v. view v.now) o ≡ get_member key ms
    → IfSome o (λ v. width (view v.now) ≤ members_width ms)
found_narrow None key ms is = tt
found_narrow (Some v) key ms is = member_narrow key ms (view v.now) is

-- the same of a value that is taken out
pub taken_narrow : (o : Option Value) (key : List ℕ) (ms : Members) → option_map view o ≡ get_member key ms
    → IfSome o (λ v. width (view v) ≤ members_width ms)
taken_narrow None key ms is = tt
taken_narrow (Some v) key ms is = member_narrow key ms (view v) is
