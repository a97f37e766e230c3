-- How the whole lines of a text go on after what was read.
use Rattle.std.specs.Prelude.{min, slice_range}
use Rattle.std.proofs.Common.{◌≡◌, ℕ, zero, suc, ◌+◌, ◌-◌, ◌<◌, ◌≤◌, inl, inr, cond, Bool, true, false, List, [], ◌∷◌, ◌++◌}
use Rattle.std.proofs.Common.{length, take, drop, get_or, Some, None, refl, sym, ap, ◌∙◌, arith, append_assoc, append-nil}
use Rattle.std.proofs.lemmas.Bool.{cases_lt, false_from_ne_true}
use Rattle.std.proofs.lemmas.List.{drop-drop, drop-take, drop_all, length-take, take-take, take_all}
use Rattle.std.proofs.Math.Seq.{take-append-add, take-append_seam}
use Rattle.memchr.specs.Find.{IsFirstByte}
use Rattle.input_lines.specs.Lines.{is_newline, lines_after, whole_lines}
use Rattle.input_lines.specs.Reading.{AreLinesSoFar, LinesState}

-- ---- newlines

-- bytes without a newline go on with the line that has begun
no_newline : (begun ahead more : List ℕ) (count : ℕ) → count ≤ length ahead
    → ((k : ℕ) → k < count → is_newline (get_or ahead k 0) ≡ false)
    → lines_after begun (ahead ++ more) ≡ lines_after (begun ++ take count ahead) (drop count ahead ++ more)
no_newline begun ahead more zero le fails = ap (λ (o : List ℕ). lines_after o (ahead ++ more)) (sym (append-nil begun))
no_newline begun [] more (suc count) le fails = absurd (omega (arith, le))
no_newline begun (byte ∷ ahead) more (suc count) le fails =
    let first : is_newline byte ≡ false = fails zero (omega arith) in
    ap (λ (newline : Bool). cond newline (begun ∷ lines_after [] (ahead ++ more)) (lines_after (begun ++ byte ∷ []) (ahead ++ more))) first
    ∙ no_newline (begun ++ byte ∷ []) ahead more count (omega (arith, le)) (λ k less. fails (suc k) (omega (arith, less)))
    ∙ ap (λ (o : List ℕ). lines_after o (drop count ahead ++ more)) (append_assoc begun (byte ∷ []) (take count ahead))

-- a newline ends it
newline_at : (begun ahead more : List ℕ) → 0 < length ahead → is_newline (get_or ahead 0 0) ≡ true
    → lines_after begun (ahead ++ more) ≡ begun ∷ lines_after [] (drop 1 ahead ++ more)
newline_at begun [] more some is = absurd (omega (arith, some))
newline_at begun (byte ∷ ahead) more some is =
    ap (λ (newline : Bool). cond newline (begun ∷ lines_after [] (ahead ++ more)) (lines_after (begun ++ byte ∷ []) (ahead ++ more))) is

get_drop : (n : ℕ) (xs : List ℕ) → get_or (drop n xs) 0 0 ≡ get_or xs n 0
get_drop zero xs = refl
get_drop (suc n) [] = refl
get_drop (suc n) (x ∷ xs) = get_drop n xs

pub length_drop : (n : ℕ) (xs : List ℕ) → n < length xs → 0 < length (drop n xs)
length_drop zero xs less = less
length_drop (suc n) [] less = absurd (omega (arith, less))
length_drop (suc n) (x ∷ xs) less = length_drop n xs (omega (arith, less))

pub drop_one : (n : ℕ) (xs : List ℕ) → drop 1 (drop n xs) ≡ drop (suc n) xs
drop_one zero xs = refl
drop_one (suc n) [] = refl
drop_one (suc n) (x ∷ xs) = drop_one n xs

-- up to the first newline
pub up_to_newline : (begun ahead more : List ℕ) (count : ℕ) → IsFirstByte is_newline ahead (Some count)
    → lines_after begun (ahead ++ more) ≡ (begun ++ take count ahead) ∷ lines_after [] (drop (suc count) ahead ++ more)
up_to_newline begun ahead more count first =
    let inside : count < length ahead = first.0.high in
    no_newline begun ahead more count (omega (arith, inside)) (λ k less. false_from_ne_true _ (first.0.before k (omega arith) less))
    ∙ newline_at (begun ++ take count ahead) (drop count ahead) more (length_drop count ahead inside)
    (ap is_newline (get_drop count ahead) ∙ first.1)
    ∙ ap (λ (rest : List ℕ). (begun ++ take count ahead) ∷ lines_after [] (rest ++ more)) (drop_one count ahead)

-- there is none
pub without_newline : (begun ahead more : List ℕ) → IsFirstByte is_newline ahead None
    → lines_after begun (ahead ++ more) ≡ lines_after (begun ++ ahead) more
without_newline begun ahead more none =
    no_newline begun ahead more (length ahead) (omega arith) (λ k less. false_from_ne_true _ (none k (omega arith) less))
    ∙ (λ i. lines_after (begun ++ take_all (length ahead) ahead (omega arith) i) (drop_all (length ahead) ahead (omega arith) i ++ more))

-- ---- a piece

-- what is written over a whole buffer is what it has
pub written_over : (room : ℕ) (bytes old : List ℕ) → length bytes ≡ room → take room (bytes ++ drop (length bytes) old) ≡ bytes
written_over room bytes old all =
    ap (λ (n : ℕ). take n (bytes ++ drop (length bytes) old)) (sym all) ∙ take-append_seam bytes (drop (length bytes) old)

-- what is kept of some bytes
pub kept_first : (front bytes : List ℕ) (n : ℕ) → length front ≤ 67 → n ≡ min (length bytes) (67 - length front)
    → front ++ take n bytes ≡ take 67 (front ++ bytes)
kept_first front bytes n few is =
    let room : ℕ = 67 - length front in
    let all : 67 ≡ length front + room = omega (arith, few) in
    let front_of : take n bytes ≡ take room bytes = elim (cases_lt room (length bytes)) [
      | inl more ↦ ap (λ (k : ℕ). take k bytes) (omega (arith, is, more))
      | inr less ↦ take_all n bytes (omega (arith, is, less)) ∙ sym (take_all room bytes (omega (arith, less)))
    ] in
    ap (λ (bs : List ℕ). front ++ bs) front_of
    ∙ sym (take-append-add front bytes room) ∙ ap (λ (k : ℕ). take k (front ++ bytes)) (sym all)

module _ (piece : List ℕ) (at end count : ℕ) (few : count ≤ length (slice_range piece at end)) where
  within : count ≤ end - at
  within = omega (arith, few, length-take (end - at) (drop at piece))

  -- the first bytes ahead
  pub ahead_first : slice_range piece at (at + count) ≡ take count (slice_range piece at end)
  ahead_first =
      let same : at + count - at ≡ count = omega arith in
      ap (λ (n : ℕ). take n (drop at piece)) same ∙ sym (take-take count (end - at) (drop at piece) within)

  -- those after them
  pub ahead_after : slice_range piece (at + count) end ≡ drop count (slice_range piece at end)
  ahead_after =
      let rest : ℕ = end - (at + count) in
      let all : end - at ≡ count + rest = omega (arith, within) in
      ap (take rest) (sym (drop-drop count at piece)) ∙ sym (drop-take count rest (drop at piece))
      ∙ ap (λ (n : ℕ). drop count (take n (drop at piece))) (sym all)

-- of a line that stands whole in a piece the first bytes are lent
pub lent_line : (piece : List ℕ) (at end count : ℕ) → count ≤ length (slice_range piece at end)
    → slice_range piece at (at + min count 67) ≡ take 67 (take count (slice_range piece at end))
lent_line piece at end count few =
    let ahead : List ℕ = slice_range piece at end in
    let kept : take (min count 67) ahead ≡ take 67 (take count ahead) = elim (cases_lt 67 count) [
      | inl more ↦
          let all : min count 67 ≡ 67 = omega (arith, more) in
          ap (λ (n : ℕ). take n ahead) all ∙ sym (take-take 67 count ahead (omega (arith, more)))
      | inr less ↦
          let all : min count 67 ≡ count = omega (arith, less) in
          ap (λ (n : ℕ). take n ahead) all ∙ sym (take_all 67 (take count ahead) (omega (arith, less, length-take count ahead)))
    ] in
    ahead_first piece at end (min count 67) (omega (arith, few)) ∙ kept

-- ---- reading

-- the first bytes are those of the first bytes of a front
take_front : (n : ℕ) (front rest : List ℕ) → take n (take n front ++ rest) ≡ take n (front ++ rest)
take_front zero front rest = refl
take_front (suc n) [] rest = refl
take_front (suc n) (x ∷ front) rest = ap (λ (xs : List ℕ). x ∷ xs) (take_front n front rest)

module _ (text : List ℕ) (given : List (List ℕ)) (old new : LinesState) (reading : AreLinesSoFar text given old) where
  -- a line is given
  pub reads_line : (count : ℕ) → IsFirstByte is_newline old.ahead (Some count) → new.ahead ≡ drop (suc count) old.ahead
      → new.begun ≡ [] → new.line ≡ take 67 (old.begun ++ take count old.ahead)
      → (line : List ℕ) × (new.line ≡ take 67 line) × AreLinesSoFar text (given ++ line ∷ []) new
  reads_line count at ahead begun line = (
    reading.begun ++ take count old.ahead,
    line ∙ ap (λ (o : List ℕ). take 67 (o ++ take count old.ahead)) reading.kept ∙ take_front 67 reading.begun (take count old.ahead),
    record {
      begun = [];
      kept = begun;
      goes_on = λ more. reading.goes_on more ∙ ap (λ (lines : List (List ℕ)). given ++ lines)
          (up_to_newline reading.begun old.ahead more count at
          ∙ ap (λ (rest : List ℕ). (reading.begun ++ take count old.ahead) ∷ lines_after [] (rest ++ more)) (sym ahead))
          ∙ sym (append_assoc given ((reading.begun ++ take count old.ahead) ∷ []) (lines_after [] (new.ahead ++ more)));
    },
  )

  -- there is none
  pub reads_none : IsFirstByte is_newline old.ahead None → new.ahead ≡ [] → new.begun ≡ take 67 (old.begun ++ old.ahead)
      → AreLinesSoFar text given new
  reads_none none ahead begun = record {
    begun = reading.begun ++ old.ahead;
    kept = begun ∙ ap (λ (o : List ℕ). take 67 (o ++ old.ahead)) reading.kept ∙ take_front 67 reading.begun old.ahead;
    goes_on = λ more. reading.goes_on more ∙ ap (λ (lines : List (List ℕ)). given ++ lines)
        (without_newline reading.begun old.ahead more none
        ∙ ap (λ (rest : List ℕ). lines_after (reading.begun ++ old.ahead) (rest ++ more)) (sym ahead));
  }

  -- a piece comes
  pub reads_piece : (piece : List ℕ) → old.ahead ≡ [] → new.ahead ≡ piece → new.begun ≡ old.begun → AreLinesSoFar (text ++ piece) given new
  reads_piece piece spent ahead begun = record {
    begun = reading.begun;
    kept = begun ∙ reading.kept;
    goes_on = λ more.
        ap whole_lines (append_assoc text piece more)
        ∙ reading.goes_on (piece ++ more)
        ∙ (λ i. given ++ lines_after reading.begun (spent i ++ (piece ++ more)))
        ∙ ap (λ (rest : List ℕ). given ++ lines_after reading.begun (rest ++ more)) (sym ahead);
  }
