-- How the draws of an image go on from byte to byte, and that what they make is an image.
use Rattle.std.proofs.Common.{◌≡◌, inl, inr, ℕ, suc, ◌+◌, ◌-◌, ◌*◌, ◌/◌, ◌%◌, ◌^◌, ◌<◌, min, Bool, true, false, List, [], ◌∷◌, ◌++◌}
use Rattle.std.proofs.Common.{map, length, get_or, refl, sym, ◌∙◌, ap, arith, if◌then◌else◌}
use Rattle.std.proofs.Math.Nat.{mod-eq_of_lt, mod-lt}
use Rattle.std.proofs.lemmas.Bool.{cases_lt}
use Rattle.std.proofs.lemmas.List.FromFn.{length-map-range_with_len, get_or-map-range_with_len, map-range_with_len_more}
use Rattle.std.specs.List.{range_with_len}
use Rattle.outside_io.specs.Draws.{next_number, number_after, draw}
use Rattle.outside_io.specs.DrawnImages.{drawn_length, written_below, drawn_byte, drawn_image}
use Rattle.outside_io.specs.Images.{Span, DiskState, is_written, IsImage}
use Rattle.outside_io.specs.ImageLaws.{IsGrown}

-- ---- the generator

-- wrapped at each of the two steps, it is the number wrapped once
pub wrapped : (x : ℕ) → (x * 6364136223846793005 % 2 ^ 64 + 1442695040888963407) % 2 ^ 64 ≡ next_number x
unfolding next_number
wrapped x = omega arith

after-none : (x : ℕ) → number_after x 0 ≡ x
unfolding number_after
after-none x = refl

after-more : (x n : ℕ) → number_after x (n + 1) ≡ next_number (number_after x n)
unfolding number_after
after-more x n = let one : n + 1 ≡ suc n = omega arith in ap (number_after x) one

pub after-one : (x : ℕ) → number_after x 1 ≡ next_number x
after-one x = after-more x 0 ∙ ap next_number (after-none x)

-- a draw has 31 bits, so it is the same below the last number of 64 bits and below the one after it
few_bits : (x : ℕ) → next_number x / 2 ^ 33 < 2 ^ 31
unfolding next_number
few_bits x = omega arith

pub saturated : (x gap below : ℕ) → below ≡ min (gap + 1) (2 ^ 64 - 1) → draw x below ≡ draw x (gap + 1)
saturated x gap below is = elim (cases_lt (gap + 1) (2 ^ 64 - 1)) [
  | inl small ↦ let same : below ≡ gap + 1 = omega (arith, is, small) in ap (draw x) same
  | inr large ↦
      let here : next_number x / 2 ^ 33 < below = omega (arith, few_bits x, is, large) in
      let there : next_number x / 2 ^ 33 < gap + 1 = omega (arith, few_bits x, large) in
      mod-eq_of_lt here ∙ sym (mod-eq_of_lt there)
]

-- ---- one byte more

next_if : (written : Bool) (number x n : ℕ) → x ≡ number_after number (1 + n)
    → (if written then next_number x else x) ≡ number_after number (1 + (if written then n + 1 else n))
next_if true number x n is =
    let one : 1 + n + 1 ≡ 1 + (n + 1) = omega arith in
    ap next_number is ∙ sym (after-more number (1 + n)) ∙ ap (number_after number) one
next_if false number x n is = is

-- the number from which the next byte is drawn
pub draws_more : (spans : List Span) (number x k : ℕ) → x ≡ number_after number (1 + written_below spans k)
    → (if is_written spans k then next_number x else x) ≡ number_after number (1 + written_below spans (k + 1))
draws_more spans number x k is =
    let one : suc k ≡ k + 1 = omega arith in
    next_if (is_written spans k) number x (written_below spans k) is ∙ ap (λ (j : ℕ). number_after number (1 + written_below spans j)) one

pub bytes_more : (state : DiskState) (number x k byte : ℕ) (bytes : List ℕ)
    → bytes ≡ map (drawn_byte state number) (range_with_len 0 k) → x ≡ number_after number (1 + written_below state.written k)
    → byte ≡ (if is_written state.written k then draw x 256 else get_or state.seen k 0)
    → bytes ++ byte ∷ [] ≡ map (drawn_byte state number) (range_with_len 0 (k + 1))
bytes_more state number x k byte bytes are is byte_is =
    let drawn : byte ≡ drawn_byte state number k =
    byte_is ∙ ap (λ (y : ℕ). if is_written state.written k then draw y 256 else get_or state.seen k 0) is in
    ap (λ (l : List ℕ). l ++ byte ∷ []) are
    ∙ ap (λ (b : ℕ). map (drawn_byte state number) (range_with_len 0 k) ++ b ∷ []) drawn
    ∙ sym (map-range_with_len_more (drawn_byte state number) 0 k k (omega arith))

-- ---- the whole

module _ (state : DiskState) (number : ℕ) (grown : IsGrown state) where
  size_is : length (drawn_image state number) ≡ drawn_length state number
  unfolding drawn_image
  size_is = length-map-range_with_len (drawn_byte state number) 0 (drawn_length state number)

  unwritten : (k : ℕ) → k < length (drawn_image state number) → is_written state.written k ≡ false
      → get_or (drawn_image state number) k 0 ≡ get_or state.seen k 0
  unfolding drawn_image
  unwritten k lt none =
      let within : k < drawn_length state number =
      omega (arith, lt, length-map-range_with_len (drawn_byte state number) 0 (drawn_length state number)) in
      let drawn : ℕ = draw (number_after number (1 + written_below state.written k)) 256 in
      get_or-map-range_with_len (drawn_byte state number) 0 (drawn_length state number) k k 0 within (omega arith)
      ∙ ap (λ (w : Bool). if w then drawn else get_or state.seen k 0) none

  pub drawn_is_image : IsImage state (drawn_image state number)
  drawn_is_image =
      let gap : ℕ = state.longest - length state.stable in
      let below : draw number (gap + 1) < gap + 1 = mod-lt (next_number number / 2 ^ 33) (omega arith) in
      record {
        no_shorter = omega (arith, size_is);
        no_longer = omega (arith, size_is, below, grown.stable, grown.seen);
        kept = unwritten;
      }
