-- Tables as they are defined: no array in them gets too long.
use Rattle.std.proofs.Common.{◌≡◌, ℕ, ◌+◌, ◌≤◌, Bool, true, false, List, [], ◌∷◌, Option}
use Rattle.std.proofs.Common.{Some, None, Ordering, Less, Equal, Greater, refl, arith}
use Rattle.std.specs.Prelude.{⊤, if◌then◌else◌}
use Rattle.std.specs.Ordering.{nat_cmp, match_ordering}
use Rattle.std.specs.Cmp.Lexicographic.{slice_cmp}
use Rattle.toml.specs.Data.{Data, table, Items, no_items, item, same_key, push_item}
use Rattle.toml.specs.Tables.{implicit, dotted, header, Node, value, open_table, open_array, Nodes, no_nodes, node, get_node}
use Rattle.toml.specs.Tables.{insert, replace, close_node, close, Edit, header_node, dot_node, by_header, by_dot, along_header}
use Rattle.toml.specs.Tables.{along_dots, Definition, key_value, std_table, array_table, new_node, redefine, at_found, at_key}
use Rattle.toml_walk.specs.Widths.{item_count, width, items_width, members_width}
use Rattle.toml_walk.proofs.Steps.{Holds, nothing, something, mapped, either}

-- ---- one more element

pub count_push : (ds : Items) (d : Data) → item_count (push_item ds d) ≡ item_count ds + 1
count_push no_items d = refl
count_push (item e ds) d = omega (arith, count_push ds d)

pub width_push : (n : ℕ) (ds : Items) (d : Data) → items_width ds ≤ n → width d ≤ n → items_width (push_item ds d) ≤ n
width_push n no_items d few here = omega arith
width_push n (item e ds) d few here =
    let others : items_width ds ≤ n = omega arith in
    omega (arith, width_push n ds d others here)

-- ---- bounded tables

-- arrays that are complete have at most n elements, and arrays of tables at most k
abbrev mutual
  pub IsBounded : ℕ → ℕ → Node → Type 0
  IsBounded n k (value d) = width d ≤ n
  IsBounded n k (open_table origin ns) = AreBounded n k ns
  IsBounded n k (open_array done last) = (item_count done + 1 ≤ k) × (items_width done ≤ n) × AreBounded n k last

  pub AreBounded : ℕ → ℕ → Nodes → Type 0
  AreBounded n k no_nodes = ⊤
  AreBounded n k (node l x ns) = IsBounded n k x × AreBounded n k ns

mutual
  bounded_more : (n k m : ℕ) (x : Node) → k ≤ m → IsBounded n k x → IsBounded n m x
  bounded_more n k m (value d) le h = h
  bounded_more n k m (open_table origin ns) le h = all_more n k m ns le h
  bounded_more n k m (open_array done last) le h = (omega (arith, h.0), h.1, all_more n k m last le h.2)

  pub all_more : (n k m : ℕ) (ns : Nodes) → k ≤ m → AreBounded n k ns → AreBounded n m ns
  all_more n k m no_nodes le h = tt
  all_more n k m (node l x ns) le h = (bounded_more n k m x le h.0, all_more n k m ns le h.1)

mutual
  close_node_width : (n k : ℕ) (x : Node) → k ≤ n → IsBounded n k x → width (close_node x) ≤ n
  close_node_width n k (value d) le h = h
  close_node_width n k (open_table origin ns) le h = close_width n k ns le h
  close_node_width n k (open_array done last) le h =
      let inside : members_width (close last) ≤ n = close_width n k last le h.2 in
      let all : items_width (push_item done (table (close last))) ≤ n = width_push n done (table (close last)) h.1 inside in
      omega (arith, all, count_push done (table (close last)), h.0)

  pub close_width : (n k : ℕ) (ns : Nodes) → k ≤ n → AreBounded n k ns → members_width (close ns) ≤ n
  close_width n k no_nodes le h = omega arith
  close_width n k (node l x ns) le h = omega (arith, close_node_width n k x le h.0, close_width n k ns le h.1)

-- ---- look-ups and writes

ordered : (P : Nodes → Type 0) (o : Ordering) (a b c : Nodes) → P a → P b → P c → P (match_ordering o a b c)
ordered P Less a b c x y z = x
ordered P Equal a b c x y z = y
ordered P Greater a b c x y z = z

chosen : (P : Nodes → Type 0) (t : Bool) (a b : Nodes) → P a → P b → P (if t then a else b)
chosen P true a b x y = x
chosen P false a b x y = y

found_bounded : (n k : ℕ) (l : List ℕ) (ns : Nodes) → AreBounded n k ns → Holds (IsBounded n k) (get_node l ns)
found_bounded n k l no_nodes h = nothing _
found_bounded n k l (node other x ns) h = either _ _ _ _ (something _ _ h.0) (found_bounded n k l ns h.1)

insert_bounded : (n k : ℕ) (l : List ℕ) (x : Node) (ns : Nodes) → IsBounded n k x → AreBounded n k ns
    → AreBounded n k (insert l x ns)
insert_bounded n k l x no_nodes here h = (here, tt)
insert_bounded n k l x (node other y ns) here h =
    let before : AreBounded n k (node l x (node other y ns)) = (here, h) in
    let same : AreBounded n k (node l x ns) = (here, h.1) in
    let behind : AreBounded n k (node other y (insert l x ns)) = (h.0, insert_bounded n k l x ns here h.1) in
    ordered (AreBounded n k) (slice_cmp nat_cmp l other) _ _ _ before same behind

replace_bounded : (n k : ℕ) (l : List ℕ) (x : Node) (ns : Nodes) → IsBounded n k x → AreBounded n k ns
    → AreBounded n k (replace l x ns)
replace_bounded n k l x no_nodes here h = tt
replace_bounded n k l x (node other y ns) here h =
    let same : AreBounded n k (node other x ns) = (here, h.1) in
    let behind : AreBounded n k (node other y (replace l x ns)) = (h.0, replace_bounded n k l x ns here h.1) in
    chosen (AreBounded n k) (same_key l other) _ _ same behind

-- ---- edits

-- an edit keeps tables bounded, but for some elements more of an array of tables
module _ (n k m : ℕ) (le : k ≤ m) where
  abbrev pub Keeps : Edit → Type 0
  Keeps edit = (ns : Nodes) → AreBounded n k ns → Holds (AreBounded n m) (edit ns)

  header_node_keeps : (edit : Edit) (x : Node) → Keeps edit → IsBounded n k x → Holds (IsBounded n m) (header_node edit x)
  header_node_keeps edit (value d) keeps h = nothing _
  header_node_keeps edit (open_table origin inner) keeps h = mapped _ _ _ _ (keeps inner h) (λ new bounded. bounded)
  header_node_keeps edit (open_array done last) keeps h =
      mapped _ _ _ _ (keeps last h.2) (λ new bounded. (omega (arith, h.0), h.1, bounded))

  dot_node_keeps : (edit : Edit) (x : Node) → Keeps edit → IsBounded n k x → Holds (IsBounded n m) (dot_node edit x)
  dot_node_keeps edit (value d) keeps h = nothing _
  dot_node_keeps edit (open_table header inner) keeps h = nothing _
  dot_node_keeps edit (open_table implicit inner) keeps h = mapped _ _ _ _ (keeps inner h) (λ new bounded. bounded)
  dot_node_keeps edit (open_table dotted inner) keeps h = mapped _ _ _ _ (keeps inner h) (λ new bounded. bounded)
  dot_node_keeps edit (open_array done last) keeps h = nothing _

  by_header_keeps : (l : List ℕ) (edit : Edit) (ns : Nodes) (found : Option Node) → Keeps edit → AreBounded n k ns
      → Holds (IsBounded n k) found → Holds (AreBounded n m) (by_header l edit ns found)
  by_header_keeps l edit ns None keeps h there =
      let others = all_more n k m ns le h in
      mapped _ _ _ _ (keeps no_nodes tt) (λ new bounded. insert_bounded n m l (open_table implicit new) ns bounded others)
  by_header_keeps l edit ns (Some x) keeps h there =
      let others = all_more n k m ns le h in
      mapped _ _ _ _ (header_node_keeps edit x keeps there.of) (λ new bounded. replace_bounded n m l new ns bounded others)

  by_dot_keeps : (l : List ℕ) (edit : Edit) (ns : Nodes) (found : Option Node) → Keeps edit → AreBounded n k ns
      → Holds (IsBounded n k) found → Holds (AreBounded n m) (by_dot l edit ns found)
  by_dot_keeps l edit ns None keeps h there =
      let others = all_more n k m ns le h in
      mapped _ _ _ _ (keeps no_nodes tt) (λ new bounded. insert_bounded n m l (open_table dotted new) ns bounded others)
  by_dot_keeps l edit ns (Some x) keeps h there =
      let others = all_more n k m ns le h in
      mapped _ _ _ _ (dot_node_keeps edit x keeps there.of) (λ new bounded. replace_bounded n m l new ns bounded others)

  pub along_header_keeps : (path : List (List ℕ)) (edit : Edit) → Keeps edit → Keeps (along_header path edit)
  unfolding along_header
  along_header_keeps [] edit keeps ns h = keeps ns h
  along_header_keeps (l ∷ path) edit keeps ns h =
      by_header_keeps l (along_header path edit) ns (get_node l ns) (along_header_keeps path edit keeps) h (found_bounded n k l ns h)

  pub along_dots_keeps : (path : List (List ℕ)) (edit : Edit) → Keeps edit → Keeps (along_dots path edit)
  unfolding along_dots
  along_dots_keeps [] edit keeps ns h = keeps ns h
  along_dots_keeps (l ∷ path) edit keeps ns h =
      by_dot_keeps l (along_dots path edit) ns (get_node l ns) (along_dots_keeps path edit keeps) h (found_bounded n k l ns h)

  -- what may be defined: a value whose arrays are short, or an element more of an array of tables
  abbrev pub MayDefine : Definition → Type 0
  MayDefine (key_value d) = width d ≤ n
  MayDefine std_table = ⊤
  MayDefine array_table = (k + 1 ≤ m) × (k ≤ n)

  new_bounded : (what : Definition) → MayDefine what → IsBounded n m (new_node what)
  new_bounded (key_value d) may = may
  new_bounded std_table may = tt
  new_bounded array_table may = (omega (arith, may.0), omega arith, tt)

  redefine_bounded : (what : Definition) (x : Node) → MayDefine what → IsBounded n k x → Holds (IsBounded n m) (redefine what x)
  redefine_bounded std_table (open_table implicit inner) may h = something _ _ (all_more n k m inner le h)
  redefine_bounded array_table (open_array done last) may h =
      let inside : members_width (close last) ≤ n = close_width n k last may.1 h.2 in
      let all = width_push n done (table (close last)) h.1 inside in
      something _ _ (omega (arith, count_push done (table (close last)), h.0, may.0), all, tt)
  redefine_bounded (key_value d) x may h = nothing _
  redefine_bounded std_table (value d) may h = nothing _
  redefine_bounded std_table (open_table dotted inner) may h = nothing _
  redefine_bounded std_table (open_table header inner) may h = nothing _
  redefine_bounded std_table (open_array done last) may h = nothing _
  redefine_bounded array_table (value d) may h = nothing _
  redefine_bounded array_table (open_table origin inner) may h = nothing _

  at_found_bounded : (l : List ℕ) (what : Definition) (ns : Nodes) (found : Option Node) → MayDefine what → AreBounded n k ns
      → Holds (IsBounded n k) found → Holds (AreBounded n m) (at_found l what ns found)
  at_found_bounded l what ns None may h there =
      something _ _ (insert_bounded n m l (new_node what) ns (new_bounded what may) (all_more n k m ns le h))
  at_found_bounded l what ns (Some x) may h there =
      let others = all_more n k m ns le h in
      mapped _ _ _ _ (redefine_bounded what x may there.of) (λ y bounded. replace_bounded n m l y ns bounded others)

  pub at_key_keeps : (l : List ℕ) (what : Definition) → MayDefine what → Keeps (at_key l what)
  unfolding at_key
  at_key_keeps l what may ns h = at_found_bounded l what ns (get_node l ns) may h (found_bounded n k l ns h)
