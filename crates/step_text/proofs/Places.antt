-- Texts that are cut at the first byte that passes a test.
use Rattle.std.proofs.Common.{◌≡◌, ℕ, ◌+◌, ◌<◌, ◌≤◌, cond, Bool, List, [], ◌∷◌, take, drop, length}
use Rattle.std.proofs.Common.{Some, None, position, ap, ◌∙◌, arith, inl, inr}
use Rattle.std.specs.List.{position_or_len, slice_split}
use Rattle.std.proofs.lemmas.Bool.{cases_lt, lt-ltb, le-ltb}
use Rattle.std.proofs.lemmas.List.Splits.{slice_split_first, slice_split_none}
use Rattle.std.proofs.lemmas.List.Sums.{fails_before_first}

-- where a byte passes the test, the first of them is the place
pub there : (test : ℕ → Bool) (text : List ℕ) → position_or_len test text < length text
    → position test text ≡ Some (position_or_len test text)
there test text lt = ap (λ b. cond b (Some (position_or_len test text)) None) (lt-ltb (position_or_len test text) (length text) lt)

-- where none does, there is no place
pub nowhere : (test : ℕ → Bool) (text : List ℕ) → length text ≤ position_or_len test text → position test text ≡ None
nowhere test text le = ap (λ b. cond b (Some (position_or_len test text)) None) (le-ltb (position_or_len test text) (length text) le)

-- the first piece ends at the first place
pub split_at : (test : ℕ → Bool) (text : List ℕ) (at : ℕ) → Some at ≡ position test text
    → slice_split test text ≡ take at text ∷ slice_split test (drop (at + 1) text)
split_at test text at found =
    elim (cases_lt (position_or_len test text) (length text)) [
      | inl lt ↦
          let same : Some at ≡ Some (position_or_len test text) = found ∙ there test text lt in
          let is : at ≡ position_or_len test text = cc in
          rw is (slice_split_first test text 0 lt)
      | inr le ↦
          let same : Some at ≡ None = found ∙ nowhere test text le in
          absurd cc
    ]

-- where there is no such place, the text is one piece
pub split_nowhere : (test : ℕ → Bool) (text : List ℕ) → None ≡ position test text → slice_split test text ≡ text ∷ []
split_nowhere test text none =
    elim (cases_lt (position_or_len test text) (length text)) [
      | inl lt ↦
          let same : None ≡ Some (position_or_len test text) = none ∙ there test text lt in
          absurd cc
      | inr le ↦ slice_split_none test text (λ k d within. fails_before_first test text k d (omega (arith, within, le)))
    ]
