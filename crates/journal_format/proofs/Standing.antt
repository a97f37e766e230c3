-- What stands for grants is found, where there is room.
use Rattle.std.specs.Prelude.{Some, None, Ok, Bool, true, false, not, nat_lt, nat_le, nat_eq}
use Rattle.std.specs.Prelude.{slice_index, slice_range, if◌then◌else◌, ◌==◌, ◌&&◌, ◌||◌}
use Rattle.std.proofs.Common.{◌≡◌, ◌≢◌, inl, inr, ℕ, suc, ◌+◌, ◌<◌, ◌≤◌, ◌^◌, List, [], ◌∷◌, ◌++◌, length, get_or}
use Rattle.std.proofs.Common.{take, drop, refl, sym, ◌∙◌, ap, arith, append_assoc, length-append, length-take}
use Rattle.std.specs.Int.{to_be_bytes, w32}
use Rattle.std.proofs.lemmas.Nat.{from_be_bytes-to_be_bytes_4}
use Rattle.std.proofs.lemmas.List.{take_at, drop_at}
use Rattle.std.proofs.lemmas.Bool.Decides.{nat_tests}
use Rattle.std.proofs.lemmas.Cmp.{nat_list_eq_equiv}
use lib.Pointwise.{pointwise}
use Rattle.cell_base.specs.declared.shifts.Grant.{Grant}
use Rattle.journal_format.specs.declared.head.TheConstants.{TEXT_AT}
use Rattle.entry_codec.specs.Decoding.{number_4}
use Rattle.journal_format.specs.Blanks.{HasForm, name}
use Rattle.journal_format.specs.Journals.{entries, StandsFor}
use Rattle.journal_format.specs.declared.blank.BlankForm.{BlankForm}
use Rattle.journal_format.specs.declared.blank.BlankForm.TheVariants.{Short, Shut, Named}
use Rattle.journal_format.specs.declared.head.Head.TheVariants.{Blank, Open}
use Rattle.journal_format.specs.Readings.{has_name, head_of, first_difference, grants_from, read_as, IsFoundBy}
use Rattle.journal_format.proofs.HeadTests.{head_by}
use Rattle.journal_format.proofs.HeadReading.{short_head, reads_by_head, same_text_then}
use Rattle.journal_format.proofs.Windowed.{drop-drop_at}
use Rattle.journal_format.proofs.Ends.{walk_there}

shut_by : (short unnamed named broken : Bool) (size : ℕ) → (form : BlankForm) × (head_by short true unnamed named broken size ≡ Blank form)
shut_by true unnamed named broken size = (Short, refl)
shut_by false unnamed named broken size = (Shut, refl)

named_by : (short shut broken : Bool) (size : ℕ) → (form : BlankForm) × (head_by short shut false true broken size ≡ Blank form)
named_by true shut broken size = (Short, refl)
named_by false true broken size = (Shut, refl)
named_by false false broken size = (Named, refl)

zero_test : (n : ℕ) → n ≡ 0 → (n == 0) ≡ true
zero_test n is = grind (arith, nat_tests)

other_test : (n : ℕ) → n ≢ 1 → not (n == 1) ≡ true
other_test n other = grind (arith, nat_tests)

long_test : (n : ℕ) → 9 ≤ n → nat_le 9 n ≡ true
long_test n long = grind (arith, nat_tests)

named_there : (len : ℕ) (bytes : List ℕ) → 9 ≤ len → slice_range bytes 1 9 ≡ name → not (has_name len bytes) ≡ false
named_there len bytes long is =
    (λ i. not (long_test len long i && pointwise nat_eq (is i) name)) ∙ ap not (nat_list_eq_equiv.refl name)

shut_head : (file : List ℕ) → take 1 file ≡ 0 ∷ [] → (form : BlankForm) × (head_of (length file) file ≡ Blank form)
unfolding head_of
shut_head file shut =
    let first : slice_index file 0 ≡ 0 = at_first file 0 0 shut in
    let way = shut_by (nat_lt (length file) 2) (not (has_name (length file) file)) (not (slice_index file 0 == 1))
    (nat_lt (length file) TEXT_AT || nat_lt (length file) (TEXT_AT + number_4 file 9)) (number_4 file 9) in (
      way.0,
      ap (λ (b : Bool). head_by (nat_lt (length file) 2) b (not (has_name (length file) file))
          (not (slice_index file 0 == 1)) (nat_lt (length file) TEXT_AT || nat_lt (length file) (TEXT_AT + number_4 file 9))
          (number_4 file 9)) (zero_test _ first) ∙ way.1,
    )
  where
    at_first : (file : List ℕ) (n x : ℕ) → take (suc n) file ≡ x ∷ [] → slice_index file 0 ≡ x
    at_first [] n x is = absurd (cc)
    at_first (y ∷ file) n x is = ap (λ (l : List ℕ). get_or l 0 0) is

first_of : (file : List ℕ) (gate : ℕ) → take 9 file ≡ gate ∷ name → (slice_index file 0 ≡ gate) × (slice_range file 1 9 ≡ name)
first_of [] gate is = absurd (cc)
first_of (x ∷ file) gate is = (ap (λ (l : List ℕ). get_or l 0 0) is, ap (λ (l : List ℕ). drop 1 l) is)

named_head : (file : List ℕ) (gate : ℕ) → gate ≢ 1 → take 9 file ≡ gate ∷ name
    → (form : BlankForm) × (head_of (length file) file ≡ Blank form)
unfolding head_of
named_head file gate other is =
    let there = first_of file gate is in
    let long : 9 ≤ length file = omega (arith, ap length is, length-take 9 file) in
    let way = named_by (nat_lt (length file) 2) (slice_index file 0 == 0)
    (nat_lt (length file) TEXT_AT || nat_lt (length file) (TEXT_AT + number_4 file 9)) (number_4 file 9) in (
      way.0,
      (λ i. head_by (nat_lt (length file) 2) (slice_index file 0 == 0) (named_there (length file) file long there.1 i)
          (other_test (slice_index file 0) (λ one. other (sym there.0 ∙ one)) i)
          (nat_lt (length file) TEXT_AT || nat_lt (length file) (TEXT_AT + number_4 file 9)) (number_4 file 9)) ∙ way.1,
    )

blank_head : (file : List ℕ) (form : BlankForm) → HasForm form file → (found : BlankForm) × (head_of (length file) file ≡ Blank found)
blank_head file Short short = (Short, short_head file short)
blank_head file Shut shut = shut_head file shut
blank_head file Named named = named_head file named.0 named.1 named.2

no_shorter_than : (n : ℕ) (m : ℕ) → m ≤ n → nat_lt n m ≡ false
no_shorter_than n m le = grind (arith, nat_tests)

pub same_first : (at : ℕ) (xs : List ℕ) → first_difference at xs xs ≡ None
same_first at [] = refl
same_first at (x ∷ xs) = ap (λ (b : Bool). if b then first_difference (at + 1) xs xs else Some at) (own x) ∙ same_first (at + 1) xs
  where
    own : (x : ℕ) → (x == x) ≡ true
    own x = grind (arith, nat_tests)

journal_head : (text rest : List ℕ) (len : ℕ) → length text < 2 ^ 32 → TEXT_AT + length text ≤ len
    → head_of len (1 ∷ name ++ to_be_bytes w32 (length text) ++ rest) ≡ Open (length text)
unfolding head_of
journal_head text rest len small fits =
    let bytes : List ℕ = 1 ∷ name ++ to_be_bytes w32 (length text) ++ rest in
    let size : number_4 bytes 9 ≡ length text = from_be_bytes-to_be_bytes_4 (length text) small in
    let end : nat_lt len (TEXT_AT + number_4 bytes 9) ≡ false =
    no_shorter_than len (TEXT_AT + number_4 bytes 9) (omega (arith, size, fits)) in
    (λ i. head_by (no_shorter_than len 2 (omega (arith, fits)) i) false
    (named_there len bytes (omega (arith, fits)) refl i) false (no_shorter_than len TEXT_AT (omega (arith, fits)) i || end i)
    (number_4 bytes 9))
    ∙ ap (λ (k : ℕ). Open k) size

pub stands_found : (file text : List ℕ) (room : ℕ) (grants : List Grant) → StandsFor file text grants
    → IsFoundBy (read_as file text room) room grants
stands_found file text room grants (inl blank) = λ fits.
    let head = blank_head file blank.0.0 blank.0.1 in
    inl (reads_by_head file text room (Blank head.0) head.1, blank.1)
stands_found file text room grants (inr journal) = λ fits.
    let rest : List ℕ = text ++ (entries grants ++ journal.gate ∷ journal.later) in
    let whole : file ≡ 1 ∷ name ++ to_be_bytes w32 (length text) ++ rest =
    journal.split ∙ ap (λ (l : List ℕ). 1 ∷ name ++ to_be_bytes w32 (length text) ++ l)
    (append_assoc text (entries grants) (journal.gate ∷ journal.later)) in
    let long : TEXT_AT + length text ≤ length file =
    omega (arith, ap length whole, length-append text (entries grants ++ journal.gate ∷ journal.later)) in
    let head : head_of (length file) file ≡ Open (length text) = ap (head_of (length file)) whole
    ∙ journal_head text rest (length file) journal.size long in
    let after : drop TEXT_AT file ≡ rest = ap (λ (l : List ℕ). drop TEXT_AT l) whole in
    let stored : take (length text) (drop TEXT_AT file) ≡ text = ap (λ (l : List ℕ). take (length text) l) after
    ∙ take_at text (entries grants ++ journal.gate ∷ journal.later) (length text) refl in
    let gates : drop (TEXT_AT + length text) file ≡ entries grants ++ journal.gate ∷ journal.later =
    sym (drop-drop_at TEXT_AT (length text) file) ∙ ap (λ (l : List ℕ). drop (length text) l) after
    ∙ drop_at text (entries grants ++ journal.gate ∷ journal.later) (length text) refl in
    inr (reads_by_head file text room (Open (length text)) head
    ∙ same_text_then file text room (length text) (Ok grants) (ap (λ (l : List ℕ). first_difference 0 l text) stored ∙ same_first 0 text)
    (ap (grants_from room room (TEXT_AT + length text)) gates
    ∙ walk_there room room (TEXT_AT + length text) grants journal.gate journal.later journal.each journal.closed fits))
