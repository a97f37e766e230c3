-- What the head of a file and what stands after it are read as.
use Rattle.std.specs.Prelude.{Option, Some, None, Result, Err, Bool, true, false, not, nat_lt}
use Rattle.std.specs.Prelude.{slice_index, slice_range, if◌then◌else◌, ◌==◌, ◌||◌}
use Rattle.std.proofs.Common.{◌≡◌, ◌≢◌, ◌⊎◌, inl, inr, ℕ, ◌+◌, ◌*◌, ◌≤◌, List, [], ◌∷◌, ◌++◌, length}
use Rattle.std.proofs.Common.{take, drop, refl, sym, ◌∙◌, ap, subst, arith, length-take, length-drop}
use Rattle.std.proofs.lemmas.List.{append-nil}
use Rattle.std.proofs.lemmas.Bool.{cases_eq}
use Rattle.std.proofs.lemmas.Bool.Decides.{nat_tests}
use Rattle.std.specs.Option.{option_map_or}
use Rattle.std.specs.Cmp.Lexicographic.{same_text}
use Rattle.cell_base.specs.declared.shifts.Grant.{Grant}
use Rattle.entry_codec.specs.declared.encoder.TheConstants.{ENTRY_SIZE}
use Rattle.journal_format.specs.declared.head.TheConstants.{TEXT_AT}
use Rattle.entry_codec.specs.Decoding.{number_4}
use Rattle.journal_format.specs.Blanks.{HasForm, name}
use Rattle.journal_format.specs.Journals.{gate_of}
use Rattle.journal_format.specs.declared.blank.BlankForm.{BlankForm}
use Rattle.journal_format.specs.declared.blank.BlankForm.TheVariants.{Short, Named}
use Rattle.journal_format.specs.declared.fault.JournalFault.{JournalFault}
use Rattle.journal_format.specs.declared.fault.JournalFault.TheVariants.{OtherCell}
use Rattle.journal_format.specs.declared.head.Head.{Head}
use Rattle.journal_format.specs.declared.head.Head.TheVariants.{Blank, Open}
use Rattle.journal_format.proofs.HeadTests.{head_by, blank_by, open_by, neither, both_true}
use Rattle.journal_format.specs.Readings.{has_name, head_of, first_difference, grants_from, found, after_head, from_head, read_as}

-- the head shows in the first thirteen bytes
pub head_longer : (n : ℕ) (window more : List ℕ) → (TEXT_AT ≤ length window) ⊎ (more ≡ []) → head_of n (window ++ more) ≡ head_of n window
unfolding head_of
head_longer n ([]) more (inl long) = absurd (omega arith)
head_longer n (x0 ∷ []) more (inl long) = absurd (omega arith)
head_longer n (x0 ∷ x1 ∷ []) more (inl long) = absurd (omega arith)
head_longer n (x0 ∷ x1 ∷ x2 ∷ []) more (inl long) = absurd (omega arith)
head_longer n (x0 ∷ x1 ∷ x2 ∷ x3 ∷ []) more (inl long) = absurd (omega arith)
head_longer n (x0 ∷ x1 ∷ x2 ∷ x3 ∷ x4 ∷ []) more (inl long) = absurd (omega arith)
head_longer n (x0 ∷ x1 ∷ x2 ∷ x3 ∷ x4 ∷ x5 ∷ []) more (inl long) = absurd (omega arith)
head_longer n (x0 ∷ x1 ∷ x2 ∷ x3 ∷ x4 ∷ x5 ∷ x6 ∷ []) more (inl long) = absurd (omega arith)
head_longer n (x0 ∷ x1 ∷ x2 ∷ x3 ∷ x4 ∷ x5 ∷ x6 ∷ x7 ∷ []) more (inl long) = absurd (omega arith)
head_longer n (x0 ∷ x1 ∷ x2 ∷ x3 ∷ x4 ∷ x5 ∷ x6 ∷ x7 ∷ x8 ∷ []) more (inl long) = absurd (omega arith)
head_longer n (x0 ∷ x1 ∷ x2 ∷ x3 ∷ x4 ∷ x5 ∷ x6 ∷ x7 ∷ x8 ∷ x9 ∷ []) more (inl long) = absurd (omega arith)
head_longer n (x0 ∷ x1 ∷ x2 ∷ x3 ∷ x4 ∷ x5 ∷ x6 ∷ x7 ∷ x8 ∷ x9 ∷ x10 ∷ []) more (inl long) = absurd (omega arith)
head_longer n (x0 ∷ x1 ∷ x2 ∷ x3 ∷ x4 ∷ x5 ∷ x6 ∷ x7 ∷ x8 ∷ x9 ∷ x10 ∷ x11 ∷ []) more (inl long) = absurd (omega arith)
head_longer n (x0 ∷ x1 ∷ x2 ∷ x3 ∷ x4 ∷ x5 ∷ x6 ∷ x7 ∷ x8 ∷ x9 ∷ x10 ∷ x11 ∷ x12 ∷ window) more (inl long) = refl
head_longer n window more (inr none) = ap (λ (l : List ℕ). head_of n (window ++ l)) none ∙ ap (head_of n) (append-nil window)

pub open_fits : (len : ℕ) (bytes : List ℕ) (size : ℕ) → head_of len bytes ≡ Open size → TEXT_AT + size ≤ len
unfolding head_of
open_fits len bytes size is =
    let way = open_by (nat_lt len 2) (slice_index bytes 0 == 0) (not (has_name len bytes)) (not (slice_index bytes 0 == 1))
    (nat_lt len TEXT_AT || nat_lt len (TEXT_AT + number_4 bytes 9)) (number_4 bytes 9) size is in
    let long = (neither (nat_lt len TEXT_AT) (nat_lt len (TEXT_AT + number_4 bytes 9)) way.2).1 in
    fits (number_4 bytes 9) long way.3
  where
    fits : (n : ℕ) → nat_lt len (TEXT_AT + n) ≡ false → size ≡ n → TEXT_AT + size ≤ len
    fits n long same = grind (arith, nat_tests)

is_short : (n : ℕ) → nat_lt n 2 ≡ true → n ≤ 1
is_short n short = grind (arith, nat_tests)

is_long : (n : ℕ) → nat_lt n 2 ≡ false → 2 ≤ n
is_long n short = grind (arith, nat_tests)

is_zero : (n : ℕ) → (n == 0) ≡ true → n ≡ 0
is_zero n zeroed = grind (arith, nat_tests)

is_not_one : (n : ℕ) → not (n == 1) ≡ true → n ≢ 1
is_not_one n named = grind (arith, nat_tests)

shut_form : (file : List ℕ) → 2 ≤ length file → slice_index file 0 ≡ 0 → take 1 file ≡ 0 ∷ []
shut_form [] long is = absurd (omega arith)
shut_form (x ∷ file) long is = ap (λ (k : ℕ). k ∷ []) is

named_form : (file : List ℕ) → slice_range file 1 9 ≡ name → slice_index file 0 ≢ 1 → HasForm Named file
named_form [] named other = absurd (cc)
named_form (x ∷ file) named other = (x, other, ap (λ (l : List ℕ). x ∷ l) named)

pub form_is : (file : List ℕ) (form : BlankForm) → head_of (length file) file ≡ Blank form → HasForm form file
unfolding head_of
form_is file form is =
    let len = length file in
    elim (blank_by (nat_lt len 2) (slice_index file 0 == 0) (not (has_name len file)) (not (slice_index file 0 == 1))
    (nat_lt len TEXT_AT || nat_lt len (TEXT_AT + number_4 file 9)) (number_4 file 9) form is) [
      | inl short ↦ subst (λ f. HasForm f file) (sym short.1) (is_short len short.0)
      | inr other ↦ elim other [
        | inl shut ↦ subst (λ f. HasForm f file) (sym shut.2) (shut_form file (is_long len shut.0) (is_zero (slice_index file 0) shut.1))
        | inr named ↦ subst (λ f. HasForm f file) (sym named.2)
            (named_form file (same_text (slice_range file 1 9) name (sym (both_true _ _ named.0).1))
            (is_not_one (slice_index file 0) named.1))
      ]
    ]

pub reads_by_head : (file text : List ℕ) (room : ℕ) (head : Head) → head_of (length file) file ≡ head
    → read_as file text room ≡ from_head file text room head
unfolding read_as
reads_by_head file text room head is = ap (from_head file text room) is

abbrev by_difference : List ℕ → ℕ → ℕ → Option ℕ → Result (Option (List Grant)) JournalFault
by_difference file room size o =
    option_map_or (λ at. Err (OtherCell at)) o (found (grants_from room room (TEXT_AT + size) (drop (TEXT_AT + size) file)))

pub other_text : (file text : List ℕ) (room size at : ℕ) → first_difference 0 (take size (drop TEXT_AT file)) text ≡ Some at
    → after_head file text room size ≡ Err (OtherCell at)
other_text file text room size at is = ap (by_difference file room size) is

pub same_text_then : (file text : List ℕ) (room size : ℕ) (grants : Result (List Grant) JournalFault)
    → first_difference 0 (take size (drop TEXT_AT file)) text ≡ None
    → grants_from room room (TEXT_AT + size) (drop (TEXT_AT + size) file) ≡ grants → after_head file text room size ≡ found grants
same_text_then file text room size grants none is = (λ i. option_map_or (λ at. Err (OtherCell at)) (none i) (found (is i)))

pub no_difference : (at : ℕ) (xs ys : List ℕ) → first_difference at xs ys ≡ None → xs ≡ ys
no_difference at [] [] is = refl
no_difference at [] (y ∷ ys) is = absurd (cc)
no_difference at (x ∷ xs) [] is = absurd (cc)
no_difference at (x ∷ xs) (y ∷ ys) is = elim (cases_eq x y) [
  | inl same ↦ (λ i. same i ∷ no_difference (at + 1) xs ys (sym (taken x y at (first_difference (at + 1) xs ys) same) ∙ is) i)
  | inr other ↦ absurd (passed x y at (first_difference (at + 1) xs ys) other is)
]
  where
    taken : (x y at : ℕ) (rest : Option ℕ) → x ≡ y → (if x == y then rest else Some at) ≡ rest
    taken x y at rest same = grind (arith, nat_tests)

    passed : (x y at : ℕ) (rest : Option ℕ) → x ≢ y → (if x == y then rest else Some at) ≡ None → ⊥
    passed x y at rest other is = grind (arith, nat_tests)

pub gate_after : (file text : List ℕ) (size gate : ℕ) (grants : List Grant) → TEXT_AT + size ≤ length file
    → first_difference 0 (take size (drop TEXT_AT file)) text ≡ None → gate ≡ TEXT_AT + size + ENTRY_SIZE * length grants
    → gate ≡ gate_of text grants
gate_after file text size gate grants long none is =
    omega (
      arith,
      is,
      long,
      ap length (no_difference 0 (take size (drop TEXT_AT file)) text none),
      length-take size (drop TEXT_AT file),
      length-drop TEXT_AT file,
    )

pub short_head : (file : List ℕ) → length file ≤ 1 → head_of (length file) file ≡ Blank Short
unfolding head_of
short_head file short =
    ap (λ (b : Bool). head_by b (slice_index file 0 == 0) (not (has_name (length file) file)) (not (slice_index file 0 == 1))
    (nat_lt (length file) TEXT_AT || nat_lt (length file) (TEXT_AT + number_4 file 9)) (number_4 file 9)) (below (length file) short)
  where
    below : (n : ℕ) → n ≤ 1 → nat_lt n 2 ≡ true
    below n short = grind (arith, nat_tests)
