-- What a reader of the grammar leaves is no longer than what it was given.
use Rattle.std.proofs.Common.{ℕ, zero, suc, ◌≤◌, Bool, true, false, List, [], ◌∷◌, length}
use Rattle.std.proofs.Common.{drop, length-drop, Option, Some, None, unwrap_or, arith}
use Rattle.std.specs.Prelude.{if◌then◌else◌, ◌==◌, nat_lt, is_some}
use Rattle.std.specs.List.{prefix_len}
use Rattle.toml_parser.specs.Lexical.{Read, first, line_feed, starts_newline, skip_ws, skip_from, skip_turn}
use Rattle.toml_parser.specs.Strings.{hex_escape, escape_char, escape, at_delims, special, after_piece}
use Rattle.toml_parser.specs.Strings.{body, trim_newline, one_line, quoted, simple_key, key_after, key}
use Rattle.toml_parser.specs.Numbers.{unquoted}
use Rattle.toml_walk.proofs.Steps.{Holds, nothing, something, and_then, mapped, mapped_any, either, either_le, weaker}

-- ---- between the tokens

pub drop_le : (i : ℕ) (xs : List ℕ) → length (drop i xs) ≤ length xs
drop_le i xs = omega (arith, length-drop i xs)

pub skip_ws_le : (text : List ℕ) → length (skip_ws text) ≤ length text
unfolding skip_ws
skip_ws_le text = drop_le _ text

pub skip_from_le : (comments inside : Bool) (text : List ℕ) → length (skip_from comments inside text) ≤ length text
unfolding skip_from
skip_from_le comments inside [] = omega arith
skip_from_le comments inside (c ∷ cs) =
    let more = unwrap_or (skip_turn comments inside c (first cs)) false in
    let on : length (skip_from comments more cs) ≤ length (c ∷ cs) = omega (arith, skip_from_le comments more cs) in
    let stop : length (c ∷ cs) ≤ length (c ∷ cs) = omega arith in
    either_le (is_some (skip_turn comments inside c (first cs))) (skip_from comments more cs) (c ∷ cs) _ on stop

-- ---- strings

-- the text that is left has at most n bytes
abbrev pub Leaves : {A : Type 0} → ℕ → Read A → Type 0
Leaves {A} n r = Holds (λ (p : A × List ℕ). length p.1 ≤ n) r

pub leaves_more : {A : Type 0} (m n : ℕ) (r : Read A) → m ≤ n → Leaves m r → Leaves n r
leaves_more {A} m n r le h =
    weaker (λ (p : A × List ℕ). length p.1 ≤ m) (λ (p : A × List ℕ). length p.1 ≤ n) r (λ p few. omega arith) h

-- a reader that is given less
dropped : {A : Type 0} (read : List ℕ → Read A) (i : ℕ) (text : List ℕ) → ((t : List ℕ) → Leaves (length t) (read t))
    → Leaves (length text) (read (drop i text))
dropped read i text leaves = leaves_more (length (drop i text)) (length text) (read (drop i text)) (drop_le i text) (leaves (drop i text))

hex_escape_leaves : (k : ℕ) (text : List ℕ) → Leaves (length text) (hex_escape k text)
unfolding hex_escape
hex_escape_leaves k text = either _ _ _ _ (something _ _ (drop_le k text)) (nothing _)

escape_char_leaves : (text : List ℕ) → Leaves (length text) (escape_char text)
unfolding escape_char
escape_char_leaves text =
    let hex = λ (k : ℕ). dropped (hex_escape k) 1 text (hex_escape_leaves k) in
    either _ _ _ _ (hex _) (mapped_any _ _ _ (λ c. drop_le 1 text))

escape_leaves : (multi : Bool) (text : List ℕ) → Leaves (length text) (escape multi text)
unfolding escape
escape_leaves multi text =
    either _ _ _ _ (something _ _ (skip_from_le false false text)) (mapped _ _ _ _ (escape_char_leaves text) (λ p h. h))

at_delims_leaves : (delim : ℕ) (text : List ℕ) → Leaves (length text) (at_delims delim text)
at_delims_leaves delim text =
    let count = prefix_len (λ c. c == delim) text in
    let one = either _ (nat_lt count 6) (Some (Some (delim ∷ []), drop 1 text)) None (something _ _ (drop_le 1 text)) (nothing _) in
    either _ (count == 3) (Some (None, drop 3 text)) _ (something _ _ (drop_le 3 text)) one

special_leaves : (delim : ℕ) (multi : Bool) (text : List ℕ) → Leaves (length text) (special delim multi text)
unfolding special
special_leaves delim multi text =
    let escaped = dropped (escape multi) 1 text (escape_leaves multi) in
    either _ _ _ _ (either _ _ _ _ (at_delims_leaves delim text) (something _ _ (drop_le 1 text)))
    (either _ _ _ _ (mapped _ _ _ _ escaped (λ p h. h))
    (either _ _ _ _ (something _ _ (drop_le 1 text)) (nothing _)))

after_piece_leaves : (n : ℕ) (more : List ℕ → Read (List ℕ)) (piece : Option (List ℕ)) (rest : List ℕ) → length rest ≤ n
    → ((text : List ℕ) → Leaves (length text) (more text)) → Leaves n (after_piece more piece rest)
after_piece_leaves n more None rest few leaves = something _ _ few
after_piece_leaves n more (Some bytes) rest few leaves =
    mapped _ _ _ _ (leaves_more (length rest) n (more rest) few (leaves rest)) (λ p h. h)

body_leaves : (delim : ℕ) (multi : Bool) (n : ℕ) (text : List ℕ) → Leaves (length text) (body delim multi n text)
unfolding body
body_leaves delim multi zero text = nothing _
body_leaves delim multi (suc n) text =
    let more = body delim multi n in
    let more_leaves = body_leaves delim multi n in
    let plain = dropped more 1 text more_leaves in
    either _ _ _ _ (mapped _ _ _ _ plain (λ p h. h))
    (and_then _ _ _ _ (special_leaves delim multi text) (λ p few. after_piece_leaves (length text) more p.0 p.1 few more_leaves))

trim_newline_le : (text : List ℕ) → length (trim_newline text) ≤ length text
trim_newline_le text =
    let same : length text ≤ length text = omega arith in
    let two = either_le (starts_newline text) (drop 2 text) text (length text) (drop_le 2 text) same in
    either_le (first text == line_feed) (drop 1 text) (if starts_newline text then drop 2 text else text) (length text) (drop_le 1 text) two

one_line_leaves : (text : List ℕ) → Leaves (length text) (one_line text)
unfolding one_line
one_line_leaves text = dropped (body (first text) false (length text)) 1 text (body_leaves (first text) false (length text))

pub quoted_leaves : (text : List ℕ) → Leaves (length text) (quoted text)
unfolding quoted
quoted_leaves text =
    let inner = trim_newline (drop 3 text) in
    let few : length inner ≤ length text = omega (arith, trim_newline_le (drop 3 text), drop_le 3 text) in
    let lines = leaves_more (length inner) (length text) _ few (body_leaves (first text) true (length text) inner) in
    either _ _ _ _ lines (one_line_leaves text)

-- ---- keys and scalars

simple_key_leaves : (text : List ℕ) → Leaves (length text) (simple_key text)
unfolding simple_key
simple_key_leaves text = either _ _ _ _ (one_line_leaves text) (either _ _ _ _ (something _ _ (drop_le _ text)) (nothing _))

key_after_leaves : (n : ℕ) (path : List (List ℕ)) (text : List ℕ) → Leaves (length text) (key_after n path text)
unfolding key_after
key_after_leaves zero path text = nothing _
key_after_leaves (suc n) path text =
    and_then _ _ _ _ (simple_key_leaves text) (λ part few.
    let rest = skip_ws part.1 in
    let next = skip_ws (drop 1 rest) in
    let here : length rest ≤ length text = omega (arith, skip_ws_le part.1, few) in
    let there : length next ≤ length text = omega (arith, skip_ws_le (drop 1 rest), drop_le 1 rest, here) in
    either _ _ _ _ (leaves_more (length next) (length text) _ there (key_after_leaves n _ next)) (something _ _ here))

pub key_leaves : (text : List ℕ) → Leaves (length text) (key text)
key_leaves text = key_after_leaves 80 [] text

pub unquoted_leaves : (text : List ℕ) → Leaves (length text) (unquoted text)
unfolding unquoted
unquoted_leaves text = either _ _ _ _ (nothing _) (mapped_any _ _ _ (λ d. drop_le _ text))
