-- What a crash may leave after a write comes of what it might have left before, by a torn write: the old image has, in the range
-- that was written, the bytes that a read found.
use Rattle.std.proofs.Common.{◌≡◌, ◌⊎◌, inl, inr, ℕ, ◌+◌, ◌<◌, ◌≤◌, max, min, false, List, ◌∷◌, map, length, get_or}
use Rattle.std.proofs.Common.{take, drop, sym, ◌∙◌, ap, arith, if◌then◌else◌, length-take, length-drop}
use Rattle.std.proofs.lemmas.List.{get_or-take, get_or-drop, same_lists, get_or_default}
use Rattle.std.proofs.lemmas.List.FromFn.{length-map-range_with_len, get_or-map-range_with_len}
use Rattle.std.proofs.lemmas.Bool.{cases_lt}
use Rattle.std.proofs.lemmas.Bool.Decides.{nat_tests}
use Rattle.std.specs.List.{range_with_len}
use Rattle.outside_io.specs.Disk.{Torn, Follows}
use Rattle.outside_io.specs.Images.{Span, DiskState, is_within, is_written, IsImage}
use Rattle.outside_io.specs.ImageLaws.{IsGrown}

module _ (state next : DiskState) (at n : ℕ) (grown : IsGrown state)
    (stable : next.stable ≡ state.stable)
    (written : next.written ≡ record { at = at; size = n } ∷ state.written)
    (begins : at ≤ length state.seen)
    (ends : next.longest ≤ max state.longest (at + n))
    (elsewhere : (k : ℕ) → (k < at) ⊎ (at + n ≤ k) → get_or next.seen k 0 ≡ get_or state.seen k 0)
  where
    abbrev span : Span
    span = record { at = at; size = n }

    abbrev byte_before : List ℕ → ℕ → ℕ
    byte_before c k = if is_within k span then get_or state.seen k 0 else get_or c k 0

    abbrev size_before : List ℕ → ℕ
    size_before c = min (length c) state.longest

    abbrev image_before : List ℕ → List ℕ
    image_before c = map (byte_before c) (range_with_len 0 (size_before c))

    length-image_before : (c : List ℕ) → length (image_before c) ≡ size_before c
    length-image_before c = length-map-range_with_len (byte_before c) 0 (size_before c)

    get_or-image_before : (c : List ℕ) (k d : ℕ) → k < size_before c → get_or (image_before c) k d ≡ byte_before c k
    get_or-image_before c k d lt = get_or-map-range_with_len (byte_before c) 0 (size_before c) k k d lt (omega arith)

    outside : (c : List ℕ) (k : ℕ) → (k < at) ⊎ (at + n ≤ k) → byte_before c k ≡ get_or c k 0
    outside c k (inl below) = grind (arith, nat_tests)
    outside c k (inr above) = grind (arith, nat_tests)

    inside : (c : List ℕ) (k : ℕ) → at ≤ k → k < at + n → byte_before c k ≡ get_or state.seen k 0
    inside c k le lt = grind (arith, nat_tests)

    placed : (k : ℕ) → ((at ≤ k) × (k < at + n)) ⊎ ((k < at) ⊎ (at + n ≤ k))
    placed k = elim (cases_lt k at) [
      | inl below ↦ inr (inl below)
      | inr from ↦ elim (cases_lt k (at + n)) [ inl lt ↦ inl (from, lt) | inr above ↦ inr (inr above) ]
    ]

    not_spanned : (k : ℕ) → (k < at) ⊎ (at + n ≤ k) → is_written state.written k ≡ false → is_written (span ∷ state.written) k ≡ false
    not_spanned k (inl below) none = grind (arith, nat_tests)
    not_spanned k (inr above) none = grind (arith, nat_tests)

    same_byte : (c : List ℕ) (k d : ℕ) → k < size_before c → (k < at) ⊎ (at + n ≤ k) → get_or c k d ≡ get_or (image_before c) k d
    same_byte c k d both out =
        get_or_default c k d 0 (omega (arith, both)) ∙ sym (outside c k out) ∙ sym (get_or-image_before c k d both)

    kept : (c : List ℕ) → IsImage next c → (k : ℕ) → k < length (image_before c) → is_written state.written k ≡ false
        → get_or (image_before c) k 0 ≡ get_or state.seen k 0
    kept c is k lt not_written =
        let both : k < size_before c = omega (arith, lt, length-image_before c) in
        get_or-image_before c k 0 both ∙ elim (placed k) [
          | inl within ↦ inside c k within.0 within.1
          | inr out ↦
              let still : is_written next.written k ≡ false =
              ap (λ (spans : List Span). is_written spans k) written ∙ not_spanned k out not_written in
              outside c k out ∙ is.kept k (omega (arith, both)) still ∙ elsewhere k out
        ]

    before : (c : List ℕ) → take at c ≡ take at (image_before c)
    before c =
        let taken = length-take at c in
        let taken_before = length-take at (image_before c) in
        same_lists _ _ (omega (arith, begins, grown.seen, taken, taken_before, length-image_before c)) (λ k d lt.
        let within : k < at = omega (arith, lt, taken) in
        let both : k < size_before c = omega (arith, lt, begins, grown.seen, taken) in
        get_or-take at c k d within ∙ same_byte c k d both (inl within) ∙ sym (get_or-take at (image_before c) k d within))

    after : (c : List ℕ) → IsImage next c → drop (at + n) c ≡ drop (at + n) (image_before c)
    after c is =
        let left = length-drop (at + n) c in
        let left_before = length-drop (at + n) (image_before c) in
        same_lists _ _ (omega (arith, left, left_before, length-image_before c, is.no_longer, ends)) (λ k d lt.
        let both : at + n + k < size_before c = omega (arith, lt, left, is.no_longer, ends) in
        get_or-drop (at + n) c k d ∙ same_byte c (at + n + k) d both (inr (omega arith))
        ∙ sym (get_or-drop (at + n) (image_before c) k d))

    pub follows_torn : Follows (Torn at n) (IsImage state) (IsImage next)
    follows_torn c is = (
      image_before c,
      record {
        no_shorter = omega (arith, length-image_before c, is.no_shorter, ap length stable, grown.stable, grown.seen);
        no_longer = omega (arith, length-image_before c);
        kept = kept c is;
      },
      record {
        before = before c;
        after = after c is;
        no_shorter = omega (arith, length-image_before c);
        no_longer = omega (arith, length-image_before c, is.no_longer, ends);
      },
    )
