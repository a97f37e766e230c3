-- Documents as they are read, line by line: each line adds one element at most to an array of tables.
use Rattle.std.proofs.Common.{ℕ, zero, suc, ◌+◌, ◌≤◌, true, false, List, [], length, drop, IfSome, arith}
use Rattle.std.specs.Prelude.{⊤, ◌==◌, ◌&&◌, slice_index}
use Rattle.toml_parser.specs.Lexical.{Read, first, right_bracket, skip_ws, skip_blank}
use Rattle.toml_parser.specs.Strings.{Key, key}
use Rattle.toml.specs.Tables.{no_nodes, Definition, Expression, key_value, std_table, array_table, Document, at_key, put, define_as, define}
use Rattle.toml.specs.Parse.{val, header_key, expression, line, lines, skip_bom, parse_document}
use Rattle.toml_walk.specs.Widths.{width, members_width}
use Rattle.toml_walk.proofs.Steps.{Holds, nothing, something, and_then, mapped, either, either_le}
use Rattle.toml_walk.proofs.Rests.{Leaves, drop_le, skip_ws_le, skip_from_le, key_leaves}
use Rattle.toml_walk.proofs.Nodes.{AreBounded, all_more, close_width, along_header_keeps, along_dots_keeps, at_key_keeps}
use Rattle.toml_walk.proofs.ValueWidths.{after_byte_leaves, keyval_reads, val_reads}

-- ---- expressions

header_key_leaves : (text : List ℕ) → Leaves (length text) (header_key text)
unfolding header_key
header_key_leaves text =
    let few = skip_ws_le text in
    and_then _ _ _ _ (key_leaves (skip_ws text)) (λ k less.
    mapped _ _ _ _ (after_byte_leaves right_bracket k.1) (λ rest left. omega (arith, left, less, few)))

-- a value whose arrays are short, or a header
abbrev IsShort : ℕ → Definition → Type 0
IsShort n (key_value d) = width d ≤ n
IsShort n std_table = ⊤
IsShort n array_table = ⊤

abbrev Reads : ℕ → List ℕ → Read Expression → Type 0
Reads n text r = Holds (λ (p : Expression × List ℕ). IsShort n p.0.1 × (length p.1 ≤ length text)) r

expression_reads : (n : ℕ) (text : List ℕ) → length text ≤ n → Reads n text (expression text)
unfolding expression
expression_reads n text few =
    let two = drop_le 2 text in
    let one = drop_le 1 text in
    let inside = λ (t : List ℕ) (h : length t ≤ n). val_reads n 80 t h in
    either _ _ _ _
    (and_then _ _ _ _ (header_key_leaves (drop 2 text)) (λ k less.
    mapped _ _ _ _ (after_byte_leaves right_bracket k.1) (λ rest left. (tt, omega (arith, left, less, two)))))
    (either _ _ _ _
    (mapped _ _ _ _ (header_key_leaves (drop 1 text)) (λ p less. (tt, omega (arith, less, one))))
    (mapped _ _ _ _ (keyval_reads n (val 80) inside text few) (λ p read. read)))

line_reads : (n : ℕ) (text : List ℕ) → length text ≤ n → Reads n text (line text)
unfolding line
line_reads n text few = and_then _ _ _ _ (expression_reads n text few) (λ e read. either _ _ _ _ (something _ _ read) (nothing _))

-- ---- what they define

define_bounded : (n k : ℕ) (doc : Document) (key : Key) (what : Definition) → k ≤ n → AreBounded n k doc.0 → IsShort n what
    → Holds (λ (next : Document). AreBounded n (k + 1) next.0) (define_as doc key what)
define_bounded n k doc key (key_value d) le bounded short =
    let more : k ≤ k + 1 = omega arith in
    let keeps = at_key_keeps n k (k + 1) more key.1 (key_value d) short in
    let put_keeps = along_dots_keeps n k (k + 1) more key.0 (at_key key.1 (key_value d)) keeps in
    mapped _ _ _ _ (along_header_keeps n k (k + 1) more doc.1 (put key d) put_keeps doc.0 bounded) (λ root kept. kept)
define_bounded n k doc key std_table le bounded short =
    let more : k ≤ k + 1 = omega arith in
    let keeps = at_key_keeps n k (k + 1) more key.1 std_table tt in
    mapped _ _ _ _ (along_header_keeps n k (k + 1) more key.0 (at_key key.1 std_table) keeps doc.0 bounded) (λ root kept. kept)
define_bounded n k doc key array_table le bounded short =
    let more : k ≤ k + 1 = omega arith in
    let keeps = at_key_keeps n k (k + 1) more key.1 array_table (omega arith, le) in
    mapped _ _ _ _ (along_header_keeps n k (k + 1) more key.0 (at_key key.1 array_table) keeps doc.0 bounded) (λ root kept. kept)

-- ---- the document

lines_bounded : (n m k : ℕ) (doc : Document) (text : List ℕ) → length text ≤ n → k + m ≤ suc n → AreBounded n k doc.0
    → Holds (λ (whole : Document). AreBounded n n whole.0) (lines m doc text)
unfolding lines define
lines_bounded n zero k doc text few left bounded = nothing _
lines_bounded n (suc m) k doc text few left bounded =
    let start = skip_blank text in
    let less : length start ≤ length text = skip_from_le true false text in
    let short : length start ≤ n = omega arith in
    let le : k ≤ n = omega arith in
    let next_left : (k + 1) + m ≤ suc n = omega arith in
    either _ _ _ _ (something _ _ (all_more n k n doc.0 le bounded))
    (and_then _ _ _ _ (line_reads n start short) (λ e read.
    let rest_few : length e.1 ≤ n = omega (arith, read.1) in
    and_then _ _ _ _ (define_bounded n k doc e.0.0 e.0.1 le bounded read.0) (λ next kept.
    lines_bounded n m (k + 1) next e.1 rest_few next_left kept)))

skip_bom_le : (text : List ℕ) → length (skip_bom text) ≤ length text
unfolding skip_bom
skip_bom_le text =
    let same : length text ≤ length text = omega arith in
    either_le ((first text == 0xEF && slice_index text 1 == 0xBB) && slice_index text 2 == 0xBF) (drop 3 text) text _ (drop_le 3 text) same

pub document_width : (text : List ℕ) → IfSome (parse_document text) (λ ms. members_width ms ≤ length text)
unfolding parse_document
document_width text =
    let n = length text in
    let none : 0 + suc n ≤ suc n = omega arith in
    let same : n ≤ n = omega arith in
    let whole = lines_bounded n (suc n) 0 (no_nodes, []) (skip_bom text) (skip_bom_le text) none tt in
    (mapped (λ ms. members_width ms ≤ n) _ _ _ whole (λ doc bounded. close_width n n doc.0 same bounded)).of
