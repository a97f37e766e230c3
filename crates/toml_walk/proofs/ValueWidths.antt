-- Values as they are read: no array in them is longer than the text.
use Rattle.std.proofs.Common.{ℕ, zero, suc, ◌+◌, ◌≤◌, true, false, List, length, drop, Some, None, arith}
use Rattle.std.specs.Prelude.{◌==◌}
use Rattle.toml_parser.specs.Lexical.{Read, first, right_bracket, right_brace, equals, skip_blank}
use Rattle.toml_parser.specs.Strings.{Key}
use Rattle.toml_parser.specs.declared.scalar.Scalar.{Scalar}
use Rattle.toml_parser.specs.declared.scalar.Scalar.TheVariants.{Boolean, Integer, Float, Datetime}
use Rattle.toml.specs.Data.{Data, Items, no_items, Members, push_item}
use Rattle.toml.specs.Tables.{Nodes, no_nodes, key_value}
use Rattle.toml.specs.Parse.{after_byte, after_element, key_equals, keyval, items, members, scalar_data, atom, val}
use Rattle.toml_walk.specs.Widths.{item_count, width, items_width, members_width}
use Rattle.toml_walk.proofs.Steps.{Holds, nothing, something, and_then, mapped, either, weaker}
use Rattle.toml_walk.proofs.Rests.{Leaves, drop_le, skip_ws_le, skip_from_le, quoted_leaves, unquoted_leaves, key_leaves}
use Rattle.toml_walk.proofs.Nodes.{AreBounded, count_push, width_push, close_width, along_dots_keeps, at_key_keeps}

-- ---- between the parts

pub after_byte_leaves : (byte : ℕ) (text : List ℕ) → Holds (λ rest. length rest ≤ length text) (after_byte byte text)
after_byte_leaves byte text = either _ (first text == byte) (Some (drop 1 text)) None (something _ _ (drop_le 1 text)) (nothing _)

after_element_leaves : (closing : ℕ) (text : List ℕ) → Holds (λ rest. length rest ≤ length text) (after_element closing text)
unfolding after_element
after_element_leaves closing text =
    let rest = skip_blank text in
    let few : length rest ≤ length text = skip_from_le true false text in
    let behind : length (drop 1 rest) ≤ length text = omega (arith, drop_le 1 rest, few) in
    either _ _ _ _ (something _ _ behind) (either _ _ _ _ (something _ _ few) (nothing _))

key_equals_leaves : (text : List ℕ) → Leaves (length text) (key_equals text)
unfolding key_equals
key_equals_leaves text =
    and_then _ _ _ _ (key_leaves text) (λ k few.
    mapped _ _ _ _ (after_byte_leaves equals k.1) (λ rest less. omega (arith, skip_ws_le rest, less, few)))

-- ---- values without parts

-- a value with short arrays, and a text that is left of this text
abbrev pub Reads : ℕ → List ℕ → Read Data → Type 0
Reads n text r = Holds (λ (p : Data × List ℕ). (width p.0 ≤ n) × (length p.1 ≤ length text)) r

scalar_width : (n : ℕ) (s : Scalar) → width (scalar_data s) ≤ n
scalar_width n (Boolean b) = omega arith
scalar_width n (Integer z) = omega arith
scalar_width n (Float x) = omega arith
scalar_width n (Datetime dt) = omega arith

atom_reads : (n : ℕ) (text : List ℕ) → Reads n text (atom text)
unfolding atom
atom_reads n text =
    either _ _ _ _ (mapped _ _ _ _ (quoted_leaves text) (λ p few. (omega arith, few)))
    (mapped _ _ _ _ (unquoted_leaves text) (λ p few. (scalar_width n p.0, few)))

-- ---- arrays and inline tables, where the values in them are read so

module _ (n : ℕ) (val : List ℕ → Read Data) (reads : (text : List ℕ) → length text ≤ n → Reads n text (val text)) where
  pub keyval_reads : (text : List ℕ) → length text ≤ n
      → Holds (λ (p : (Key × Data) × List ℕ). (width p.0.1 ≤ n) × (length p.1 ≤ length text)) (keyval val text)
  keyval_reads text few =
      and_then _ _ _ _ (key_equals_leaves text) (λ k less.
      let short : length k.1 ≤ n = omega arith in
      mapped _ _ _ _ (reads k.1 short) (λ p read. (read.0, omega (arith, read.1, less))))

  items_reads : (m : ℕ) (found : Items) (text : List ℕ) → length text ≤ n → items_width found ≤ n → item_count found + m ≤ n
      → Holds (λ (p : Items × List ℕ). (item_count p.0 ≤ n) × (items_width p.0 ≤ n) × (length p.1 ≤ length text))
      (items val m found text)
  unfolding items
  items_reads zero found text few narrow counted = nothing _
  items_reads (suc m) found text few narrow counted =
      let start = skip_blank text in
      let less : length start ≤ length text = skip_from_le true false text in
      let short : length start ≤ n = omega arith in
      let ended : length (drop 1 start) ≤ length text = omega (arith, drop_le 1 start, less) in
      let count : item_count found ≤ n = omega arith in
      either _ _ _ _ (something _ _ (count, narrow, ended))
      (and_then _ _ _ _ (reads start short) (λ v read.
      and_then _ _ _ _ (after_element_leaves right_bracket v.1) (λ next left.
      let next_few : length next ≤ n = omega (arith, left, read.1) in
      let more = push_item found v.0 in
      let more_narrow : items_width more ≤ n = width_push n found v.0 narrow read.0 in
      let more_counted : item_count more + m ≤ n = omega (arith, count_push found v.0) in
      let rest = items_reads m more next next_few more_narrow more_counted in
      weaker _ _ _ (λ p h. (h.0, h.1, omega (arith, h.2, left, read.1, less))) rest)))

  members_reads : (m : ℕ) (found : Nodes) (text : List ℕ) → length text ≤ n → AreBounded n n found
      → Holds (λ (p : Members × List ℕ). (members_width p.0 ≤ n) × (length p.1 ≤ length text)) (members val m found text)
  unfolding members
  members_reads zero found text few bounded = nothing _
  members_reads (suc m) found text few bounded =
      let start = skip_blank text in
      let less : length start ≤ length text = skip_from_le true false text in
      let short : length start ≤ n = omega arith in
      let ended : length (drop 1 start) ≤ length text = omega (arith, drop_le 1 start, less) in
      let same : n ≤ n = omega arith in
      either _ _ _ _ (something _ _ (close_width n n found same bounded, ended))
      (and_then _ _ _ _ (keyval_reads start short) (λ e read.
      let keeps = at_key_keeps n n n same e.0.0.1 (key_value e.0.1) read.0 in
      and_then _ _ _ _ (along_dots_keeps n n n same e.0.0.0 _ keeps found bounded) (λ more kept.
      and_then _ _ _ _ (after_element_leaves right_brace e.1) (λ next left.
      let next_few : length next ≤ n = omega (arith, left, read.1) in
      weaker _ _ _ (λ p h. (h.0, omega (arith, h.1, left, read.1, less))) (members_reads m more next next_few kept)))))

-- ---- values

pub val_reads : (n depth : ℕ) (text : List ℕ) → length text ≤ n → Reads n text (val depth text)
unfolding val
val_reads n zero text few = atom_reads n text
val_reads n (suc depth) text few =
    let less : length (drop 1 text) ≤ length text = drop_le 1 text in
    let short : length (drop 1 text) ≤ n = omega arith in
    let none : items_width no_items ≤ n = omega arith in
    let counted : item_count no_items + length text ≤ n = omega arith in
    let inside = λ (t : List ℕ) (h : length t ≤ n). val_reads n depth t h in
    let elements = items_reads n (val depth) inside (length text) no_items (drop 1 text) short none counted in
    let pairs = members_reads n (val depth) inside (length text) no_nodes (drop 1 text) short tt in
    either _ _ _ _ (mapped _ _ _ _ elements (λ p h. (omega (arith, h.0, h.1), omega (arith, h.2, less))))
    (either _ _ _ _ (mapped _ _ _ _ pairs (λ p h. (h.0, omega (arith, h.1, less))))
    (atom_reads n text))
