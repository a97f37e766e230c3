-- Texts that differ, and parts of them.
use Rattle.std.specs.Prelude.{Some, None, Bool, false, if◌then◌else◌, ◌==◌}
use Rattle.std.proofs.Common.{◌≡◌, ◌≢◌, ℕ, zero, suc, ◌+◌, ◌-◌, ◌≤◌, ◌<◌, List, [], ◌∷◌, ◌++◌, length}
use Rattle.std.proofs.Common.{get_or, take, drop, refl, sym, ◌∙◌, ap, arith, length-take}
use Rattle.std.proofs.lemmas.List.{drop_more, drop_all, take_rest, take-append-le}
use Rattle.journal_format.proofs.Windowed.{drop-drop_at}
use Rattle.std.proofs.lemmas.Bool.Decides.{nat_tests}
use Rattle.journal_format.specs.declared.head.TheConstants.{TEXT_AT}
use Rattle.journal_format.specs.Readings.{first_difference}

not_same : (x y : ℕ) → x ≢ y → (x == y) ≡ false
not_same x y other = grind (arith, nat_tests)

pub ended : (at index : ℕ) (xs ys more : List ℕ) → index < length xs → length ys ≤ index
    → first_difference at (drop index xs ++ more) (drop index ys) ≡ Some at
ended at index xs ys more lt le =
    let left = drop_more xs index 0 lt in
    let right = drop_all index ys le in
    (λ i. first_difference at (left i ++ more) (right i))

pub differs : (at index : ℕ) (xs ys more : List ℕ) → index < length xs → index < length ys
    → get_or xs index 0 ≢ get_or ys index 0 → first_difference at (drop index xs ++ more) (drop index ys) ≡ Some at
differs at index xs ys more lt_x lt_y other =
    let left = drop_more xs index 0 lt_x in
    let right = drop_more ys index 0 lt_y in
    (λ i. first_difference at (left i ++ more) (right i))
    ∙ ap (λ (b : Bool). if b then first_difference (at + 1) (drop (index + 1) xs ++ more) (drop (index + 1) ys) else Some at)
    (not_same _ _ other)

abbrev nothing : List ℕ
nothing = []

take_nil : (n : ℕ) → take n nothing ≡ nothing
take_nil zero = refl
take_nil (suc n) = refl

split_take : (r a : ℕ) (l : List ℕ) → r ≤ a → take a l ≡ take r l ++ take (a - r) (drop r l)
split_take zero a l le = let same : a ≡ a - 0 = omega arith in ap (λ (k : ℕ). take k l) same
split_take (suc r) zero l le = absurd (omega arith)
split_take (suc r) (suc a) [] le = sym (take_nil (suc a - suc r))
split_take (suc r) (suc a) (x ∷ l) le =
    let same : a - r ≡ suc a - suc r = omega arith in
    ap (λ (k : List ℕ). x ∷ k) (split_take r a l (omega arith) ∙ ap (λ (k : ℕ). take r l ++ take k (drop r l)) same)

-- the stored text from an offset on, by what the window holds of it
module _ (file kept seen text : List ℕ) (size done at used ready len : ℕ)
    (same : seen ≡ kept)
    (shows : (length file ≡ len) × (drop (TEXT_AT + done) file ≡ drop used kept ++ drop at file))
    (wanted : ready ≤ size - done)
    (held : ready ≤ length (drop used kept))
  where
    abbrev pub piece : List ℕ
    piece = take (used + ready - used) (drop used seen)

    abbrev pub rest : List ℕ
    rest = take (size - (done + ready)) (drop (TEXT_AT + (done + ready)) file)

    abbrev pub of_text : List ℕ
    of_text = take (length text - done) (drop done text)

    piece_is : piece ≡ take ready (drop used kept)
    piece_is = let n : used + ready - used ≡ ready = omega arith in (λ i. take (n i) (drop used (same i)))

    stored : take (size - done) (drop (TEXT_AT + done) file) ≡ piece ++ rest
    stored =
        let front : take ready (drop (TEXT_AT + done) file) ≡ piece = ap (λ (l : List ℕ). take ready l) shows.1
        ∙ take-append-le ready (drop used kept) (drop at file) held ∙ sym piece_is in
        let left : size - done - ready ≡ size - (done + ready) = omega (arith, wanted) in
        let offset : TEXT_AT + done + ready ≡ TEXT_AT + (done + ready) = omega arith in
        split_take ready (size - done) (drop (TEXT_AT + done) file) wanted
        ∙ (λ i. front i ++ take (left i) (drop-drop_at (TEXT_AT + done) ready file i))
        ∙ ap (λ (k : ℕ). piece ++ take (size - (done + ready)) (drop k file)) offset

    pub compared_some : (found : ℕ) → ((more : List ℕ) → first_difference done (piece ++ more) of_text ≡ Some found)
        → first_difference done (take (size - done) (drop (TEXT_AT + done) file)) (drop done text) ≡ Some found
    compared_some found some = (λ i. first_difference done (stored i) (sym (take_rest text done) i)) ∙ some rest

    pub length-piece : length piece ≡ ready
    length-piece = ap length piece_is ∙ omega (arith, length-take ready (drop used kept), held)

    pub compared_none : ((more : List ℕ)
        → first_difference done (piece ++ more) of_text ≡ first_difference (done + length piece) more (drop (length piece) of_text))
        → first_difference done (take (size - done) (drop (TEXT_AT + done) file)) (drop done text)
        ≡ first_difference (done + ready) rest (drop (done + ready) text)
    compared_none none =
        (λ i. first_difference done (stored i) (sym (take_rest text done) i)) ∙ none rest
        ∙ (λ i. first_difference (done + length-piece i) rest (drop (length-piece i) (take_rest text done i)))
        ∙ ap (λ (l : List ℕ). first_difference (done + ready) rest l) (drop-drop_at done ready text)

-- after the stored text
pub text_longer : (size done : ℕ) (stored text : List ℕ) → done ≡ size → done < length text
    → first_difference done (take (size - done) stored) (drop done text) ≡ Some size
text_longer size done stored text is longer =
    let none : size - done ≡ 0 = omega (arith, is) in
    let more = drop_more text done 0 longer in
    (λ i. first_difference done (take (none i) stored) (more i)) ∙ ap (λ (k : ℕ). Some k) is

pub text_ends : (size done : ℕ) (stored text : List ℕ) → done ≡ size → length text ≤ done
    → first_difference done (take (size - done) stored) (drop done text) ≡ None
text_ends size done stored text is ends =
    let none : size - done ≡ 0 = omega (arith, is) in
    (λ i. first_difference done (take (none i) stored) (drop_all done text ends i))
